use Rattle.std.proofs.Common.{Option, sym, subst}
use Rattle.std.specs.Option.{option_copied}
use Rattle.virtual_state.proofs.Agreeing.{objects_more, pair_found}
use Rattle.virtual_state.specs.Inner.Agreement.{ArePair, HasMarkedObject}
use Rattle.virtual_state.specs.States.{object_of}
use Rattle.virtual_state.specs.declared.slot.VObject.{VObject}
use Rattle.virtual_state.proofs.merge.mark_objects.Goals as goal

pub mark_object-requires : goal.mark_object-requires
mark_object-requires c =
    let pair = pair_found c.args.objects.now c.args.others.now c.requires.left c.requires.right c.loop-site.site in
    let right = subst (λ (o : Option VObject). ArePair (object_of c.args.objects.now c.loop-site.site) o) (sym c.get-in-loop-site.ensures) pair in
    subst (λ (o : Option VObject). ArePair o (option_copied c.get-in-loop-site.result)) (sym c.get.ensures) right

pub loop-site-preserved : goal.loop-site-preserved
loop-site-preserved c =
    let left = subst (λ (o : Option VObject). HasMarkedObject c.loop-site.away c.mark_object.new.away o (option_copied c.get-in-loop-site.result)) c.get.ensures c.in_ok-mark_object.ensures in
    let marked = subst (λ (o : Option VObject). HasMarkedObject c.loop-site.away c.mark_object.new.away (object_of c.args.objects.now c.loop-site.site) o) c.get-in-loop-site.ensures left in
    objects_more c.args.away.now c.loop-site.away c.mark_object.new.away c.args.objects.now c.args.others.now c.loop-site.site c.loop-site.invariant marked
