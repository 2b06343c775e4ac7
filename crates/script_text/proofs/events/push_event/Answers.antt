-- The parts of the line, one behind _ _ _ the other.
use Rattle.script_text.proofs.Appended.{behind}
use Rattle.script_text.proofs.events.push_event.Goals as goal

pub returns : goal.returns
returns c =
    let kind = behind _ _ _ c.in_ok-push_decimal.ensures c.in_ok-push_kind.ensures in
    let allocations = behind _ _ _ (behind _ _ _ kind c.in_ok-extend_from_slice.ensures.items) c.in_ok-push_decimal-2.ensures in
    let entries = behind _ _ _ (behind _ _ _ allocations c.in_ok-extend_from_slice-2.ensures.items) c.in_ok-push_number.ensures in
    behind _ _ _ (behind _ _ _ entries c.in_ok-push_monitors.ensures) c.in_ok-push.ensures.items
