use Rattle.std.proofs.Common.{◌≡◌, map, take}
use Rattle.virtual_state.specs.Inner.Comparing.{absent_from}
use Rattle.virtual_state.specs.Without.{made_plain}
use Rattle.virtual_state.proofs.compare.slots_fit.Given as goal

abbrev pub invariant-loop-at : goal.invariant-loop-at
invariant-loop-at l = take l.at l.others ≡ map (made_plain (absent_from l.objects)) (take l.at l.slots)
