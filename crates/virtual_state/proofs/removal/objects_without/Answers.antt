use Rattle.std.proofs.Common.{◌≤◌, Option, arith, subst}
use Rattle.virtual_state.proofs.Filling.{filled_more, filled_all, stays_found, stays_past}
use Rattle.virtual_state.specs.Inner.Filling.{stays_as, HasPut}
use Rattle.virtual_state.specs.Laws.Removals.{without_in_order}
use Rattle.virtual_state.specs.Sites.{has}
use Rattle.virtual_state.specs.States.{object_of}
use Rattle.virtual_state.specs.Without.{objects_without}
use Rattle.virtual_state.specs.declared.slot.VObject.{VObject}
use Rattle.virtual_state.proofs.removal.objects_without.Goals as goal

pub loop-site-preserved : goal.loop-site-preserved
loop-site-preserved c =
    let away = has c.args.away.now in
    let objects = c.args.objects.now in
    let put = subst (λ (object : Option VObject). HasPut c.loop-site.rest c.put_without.new.rest (stays_as away object)) c.get.ensures c.in_ok-put_without.ensures in
    filled_more (objects_without away objects) c.loop-site.rest c.put_without.new.rest c.loop-site.site c.loop-site.invariant (stays_as away (object_of objects c.loop-site.site)) (stays_found away objects c.loop-site.site) put

pub returns : goal.returns
returns c =
    let away = has c.args.away.now in
    let objects = c.args.objects.now in
    filled_all (objects_without away objects) c.loop-site.rest c.loop-site.site c.loop-site.invariant (λ site high. let past : c.end-site-end.result ≤ site = omega arith in stays_past away objects site (c.end-site-end.ensures site past)) c.is_in_order-2.ensures (without_in_order away objects c.is_in_order.ensures)
