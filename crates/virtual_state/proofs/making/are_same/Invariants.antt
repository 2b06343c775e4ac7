use Rattle.std.proofs.Common.{◌≡◌, take}
use Rattle.virtual_state.proofs.making.are_same.Given as goal

abbrev pub invariant-loop-at : goal.invariant-loop-at
invariant-loop-at l = take l.at l.slots ≡ take l.at l.others
