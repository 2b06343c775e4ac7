use Rattle.std.proofs.Common.{ℕ, List, [], length, subst}
use Rattle.std.specs.List.{AllByRecursion}
use Rattle.virtual_state.specs.declared.slot.Slot.{Slot}
use Rattle.cases_rewrite.specs.Inner.Numbering.{AreNumberedFrom, IsThere}
use Rattle.std.proofs.lemmas.List.{append-nil}
use Rattle.virtual_state.specs.Making.{CanBeState}
use Rattle.virtual_state.specs.declared.slot.VObject.{VObject}
use Rattle.cases_rewrite.proofs.Numbered.{can_be, no_objects}
use Rattle.cases_rewrite.proofs.states.state_of.Goals as goal

pub of-requires : goal.of-requires
of-requires c =
    let numbered : AreNumberedFrom 0 c.args.objects = subst (AreNumberedFrom 0) c.as_slice-then-are_there.ensures (c.are_numbered_from.ensures c.if-are_numbered_from.true) in
    let listed : AllByRecursion (IsThere c.len.result []) c.args.slots = subst (λ (slots : List Slot). AllByRecursion (IsThere c.len.result []) slots) c.as_slice.ensures (c.are_numbered-are_there.ensures c.if-are_there.true) in
    let there : AllByRecursion (IsThere (length c.args.objects) []) c.args.slots = subst (λ (count : ℕ). AllByRecursion (IsThere count []) c.args.slots) c.len.ensures listed in
    subst (λ (list : List VObject). CanBeState c.args.slots list) (append-nil c.args.objects) (can_be c.args.slots c.args.objects [] numbered there no_objects)
