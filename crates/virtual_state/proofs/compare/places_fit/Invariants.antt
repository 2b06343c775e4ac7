use Rattle.std.proofs.Common.{◌≡◌, map, take}
use Rattle.virtual_state.specs.Inner.Comparing.{absent_from}
use Rattle.virtual_state.specs.Without.{made_plain}
use Rattle.virtual_state.proofs.compare.places_fit.Given as goal

abbrev pub invariant-loop-at : goal.invariant-loop-at
invariant-loop-at l = take l.at l.other.slots ≡ map (made_plain (absent_from l.other.objects)) (take l.at l.state.slots)
