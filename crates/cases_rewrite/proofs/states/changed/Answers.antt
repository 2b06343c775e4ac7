use Rattle.std.proofs.Common.{ℕ, List, length, subst}
use Rattle.std.specs.List.{AllByRecursion}
use Rattle.virtual_state.specs.declared.slot.Slot.{Slot}
use Rattle.cases_rewrite.specs.Inner.Numbering.{AreNumberedFrom, IsThere}
use Rattle.cases_rewrite.proofs.Numbered.{can_be, of_state}
use Rattle.cases_rewrite.proofs.states.changed.Goals as goal

pub changed-requires : goal.changed-requires
changed-requires c =
    let numbered : AreNumberedFrom 0 c.args.objects = subst (AreNumberedFrom 0) c.as_slice-then-are_there.ensures (c.are_numbered_from.ensures c.if-are_numbered_from.true) in
    let listed : AllByRecursion (IsThere c.len.result c.args.state.now.objects) c.args.slots = subst (λ (slots : List Slot). AllByRecursion (IsThere c.len.result c.args.state.now.objects) slots) c.as_slice.ensures (c.are_numbered_or_of-are_there.ensures c.if-are_there.true) in
    let there : AllByRecursion (IsThere (length c.args.objects) c.args.state.now.objects) c.args.slots = subst (λ (count : ℕ). AllByRecursion (IsThere count c.args.state.now.objects) c.args.slots) c.len.ensures listed in
    can_be c.args.slots c.args.objects c.args.state.now.objects numbered there (of_state c.args.state.now c.is_state.ensures)
