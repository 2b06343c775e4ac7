use Rattle.std.proofs.Common.{arith, get_or, subst, take_all}
use Rattle.class_rewrite.proofs.NotedSites.{item_there, noted_next, noted_none}
use Rattle.class_rewrite.proofs.made_sites.note_sites.Goals as goal
use Rattle.class_rewrite.specs.Inner.MadeSites.{IsNoted}

pub loop-site-init : goal.loop-site-init
loop-site-init c = noted_none c.args.making.now

pub loop-site-preserved : goal.loop-site-preserved
loop-site-preserved c =
    noted_next c.args.sites.now c.loop-site.site-index (get_or c.args.sites.now c.loop-site.site-index 0) c.args.making.now c.loop-site.making _
    (item_there c.args.sites.now c.loop-site.site-index (omega arith)) c.loop-site.invariant c.saturating_add-making.ensures c.in_ok-add.ensures.ok

pub returns : goal.returns
returns c =
    subst (λ sites. IsNoted c.args.making.now sites c.loop-site.making) (take_all c.loop-site.site-index c.args.sites.now (omega arith)) c.loop-site.invariant
