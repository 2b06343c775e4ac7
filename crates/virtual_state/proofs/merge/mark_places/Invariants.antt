use Rattle.std.proofs.Common.{take}
use Rattle.virtual_state.specs.Inner.Agreement.{HasMarkedDifferences}
use Rattle.virtual_state.proofs.merge.mark_places.Given as goal

abbrev pub invariant-loop-at : goal.invariant-loop-at
invariant-loop-at l = HasMarkedDifferences l.fn.away l.away (take l.at l.state.slots) (take l.at l.other.slots)
