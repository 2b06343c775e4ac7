use Rattle.std.proofs.Common.{◌≤◌, Option, arith, subst}
use Rattle.virtual_state.proofs.Filling.{filled_more, filled_all, among_found, among_past}
use Rattle.virtual_state.specs.Inner.Filling.{if_among, HasPut, of_sites}
use Rattle.virtual_state.specs.Laws.Objects.{filter_in_order}
use Rattle.virtual_state.specs.Sites.{has}
use Rattle.virtual_state.specs.States.{object_of}
use Rattle.virtual_state.specs.declared.slot.VObject.{VObject}
use Rattle.virtual_state.proofs.making.objects_among.Goals as goal

pub loop-site-preserved : goal.loop-site-preserved
loop-site-preserved c =
    let among = has c.args.among.now in
    let objects = c.args.objects.now in
    let put = subst (λ (object : Option VObject). HasPut c.loop-site.kept c.put_among.new.kept (if_among among object)) c.get.ensures c.in_ok-put_among.ensures in
    filled_more (of_sites among objects) c.loop-site.kept c.put_among.new.kept c.loop-site.site c.loop-site.invariant (if_among among (object_of objects c.loop-site.site)) (among_found among objects c.loop-site.site) put

pub returns : goal.returns
returns c =
    let among = has c.args.among.now in
    let objects = c.args.objects.now in
    filled_all (of_sites among objects) c.loop-site.kept c.loop-site.site c.loop-site.invariant (λ site high. let past : c.end-site-end.result ≤ site = omega arith in among_past among objects site (c.end-site-end.ensures site past)) c.is_in_order-2.ensures (filter_in_order among objects c.is_in_order.ensures)
