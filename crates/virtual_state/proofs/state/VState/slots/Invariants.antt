use Rattle.std.proofs.Common.{◌≡◌, take}
use Rattle.virtual_state.proofs.state.VState.slots.Given as goal

abbrev pub invariant-loop-at : goal.invariant-loop-at
invariant-loop-at l = l.slots.items ≡ take l.at l.self.slots
