use Rattle.std.proofs.Common.{◌++◌, List, sym, ap, subst, ◌∙◌}
use Rattle.virtual_state.proofs.Reaching.{LookAlike, can_be_alike, state_of_alike}
use Rattle.virtual_state.specs.Making.{CanBeState, IsStateOf}
use Rattle.virtual_state.specs.States.{object_of}
use Rattle.virtual_state.specs.declared.slot.Slot.{Slot}
use Rattle.virtual_state.specs.declared.slot.VObject.{VObject}
use Rattle.virtual_state.proofs.state.VState.moved.Goals as goal

pub reached_state-requires : goal.reached_state-requires
reached_state-requires c =
    let table = c.in_ok-table.table.value in
    let objects = c.args.objects ++ c.args.self.now.objects in
    let same : LookAlike table objects = λ site.
    c.in_ok-table.ensures site
    ∙ ap (λ (rest : List VObject). object_of (c.args.objects ++ rest) site) c.shared_objects.ensures in
    subst (λ (back : List Slot). CanBeState (c.args.front ++ back) table) (sym c.in_ok-back.ensures)
    (can_be_alike (c.args.front ++ c.args.back) table objects same c.requires)

pub returns : goal.returns
returns c =
    let table = c.in_ok-table.table.value in
    let objects = c.args.objects ++ c.args.self.now.objects in
    let same : LookAlike table objects = λ site.
    c.in_ok-table.ensures site
    ∙ ap (λ (rest : List VObject). object_of (c.args.objects ++ rest) site) c.shared_objects.ensures in
    state_of_alike (c.args.front ++ c.args.back) table objects c.in_ok-state.state same
    (subst (λ (back : List Slot). IsStateOf (c.args.front ++ back) table c.in_ok-state.state) c.in_ok-back.ensures c.in_ok-state.ensures)
