use Rattle.std.proofs.Common.{◌≡◌, arith, subst}
use Rattle.class_rewrite.proofs.NotedSites.{noted_none, noted_point}
use Rattle.class_rewrite.proofs.made_sites.note_points.Goals as goal
use Rattle.class_rewrite.specs.Inner.MadeSites.{IsNoted, made_to}

pub loop-at-init : goal.loop-at-init
loop-at-init c = noted_none c.args.making.now

pub loop-at-preserved : goal.loop-at-preserved
loop-at-preserved c =
    noted_point c.args.plan.now c.loop-at.at c.args.making.now c.loop-at.making c.note_point.new.making c.loop-at.invariant c.in_ok-note_point.ensures

pub returns : goal.returns
returns c =
    let all : c.loop-at.at ≡ c.args.count = omega arith in
    subst (λ count. IsNoted c.args.making.now (made_to count c.args.plan.now) c.loop-at.making) all c.loop-at.invariant
