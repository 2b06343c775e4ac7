use Rattle.std.proofs.Common.{◌≡◌, false, take}
use Rattle.std.specs.List.{list_any}
use Rattle.virtual_state.specs.Inner.Filling.{is_away}
use Rattle.virtual_state.specs.States.{is_present}
use Rattle.virtual_state.proofs.compare.holds_none.Given as goal

abbrev pub invariant-loop-slot : goal.invariant-loop-slot
invariant-loop-slot l = list_any (is_away (is_present l.objects)) (take l.slot-index l.slots) ≡ false
