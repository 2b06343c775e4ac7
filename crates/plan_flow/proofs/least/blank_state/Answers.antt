use Rattle.std.proofs.Common.{List, [], sym, subst}
use Rattle.plan_flow.proofs.LeastPlans.{blank_slots}
use Rattle.plan_flow.proofs.LeastStarts.{blank_is, can_be_blank}
use Rattle.plan_flow.proofs.least.blank_state.Goals as goal
use Rattle.virtual_state.specs.Making.{CanBeState, IsStateOf}
use Rattle.virtual_state.specs.declared.slot.Slot.{Slot}
use Rattle.virtual_state.specs.declared.slot.VObject.{VObject}

pub of-requires : goal.of-requires
of-requires c =
    let types = c.args.types.now in
    let blank = subst (λ (objects : List VObject). CanBeState (blank_slots types.locals types.stack) objects) (sym c.new.ensures)
    (can_be_blank types.locals types.stack) in
    subst (λ (slots : List Slot). CanBeState slots c.new.result) (sym c.in_ok-slots.ensures) blank

pub returns : goal.returns
returns c =
    let types = c.args.types.now in
    let state = c.in_ok-state.state in
    let empty = subst (λ (objects : List VObject). IsStateOf c.in_ok-slots.slots objects state) c.new.ensures c.in_ok-state.ensures in
    blank_is types.locals types.stack state c.is_state.ensures
    (subst (λ (slots : List Slot). IsStateOf slots [] state) c.in_ok-slots.ensures empty)
