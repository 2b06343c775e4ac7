use Rattle.std.proofs.Common.{take}
use Rattle.virtual_state.specs.Inner.Marks.{HasMarked}
use Rattle.virtual_state.specs.States.{names}
use Rattle.virtual_state.proofs.marks.MarkedSites.mark_slots.Given as goal

abbrev pub invariant-loop-slot : goal.invariant-loop-slot
invariant-loop-slot l = HasMarked l.fn.self l.self (names (take l.slot-index l.slots))
