use Rattle.std.proofs.Common.{◌≡◌, map, take}
use Rattle.virtual_state.specs.Sites.{has}
use Rattle.virtual_state.specs.Without.{made_plain}
use Rattle.virtual_state.proofs.removal.slots_without.Given as goal

abbrev pub invariant-loop-slot : goal.invariant-loop-slot
invariant-loop-slot l = l.rest.items ≡ map (made_plain (has l.away)) (take l.slot-index l.slots)
