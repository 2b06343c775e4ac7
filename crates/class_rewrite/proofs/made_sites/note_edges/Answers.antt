use Rattle.std.proofs.Common.{subst}
use Rattle.class_rewrite.proofs.NotedSites.{noted_edge, noted_edges, noted_none}
use Rattle.class_rewrite.proofs.made_sites.note_edges.Goals as goal
use Rattle.class_rewrite.specs.Inner.MadeSites.{IsNoted}
use Rattle.plan_flow.specs.Plans.{planned}

pub loop-number-init : goal.loop-number-init
loop-number-init c = noted_none c.args.making.now

pub loop-number-preserved : goal.loop-number-preserved
loop-number-preserved c =
    noted_edge (planned c.args.plan.now c.args.at) c.loop-number.number c.edge.result c.in-Some.edge c.args.making.now c.loop-number.making
    c.note_sites.new.making c.edge.ensures c.in-Some.is c.loop-number.invariant
    (subst (λ sites. IsNoted c.loop-number.making sites c.note_sites.new.making) c.as_slice.ensures.sites c.in_ok-note_sites.ensures)

pub returns-in_default : goal.returns-in_default
returns-in_default c =
    noted_edges (planned c.args.plan.now c.args.at) c.loop-number.number c.edge.result c.args.making.now c.loop-number.making c.edge.ensures c.in_default.is
    c.loop-number.invariant
