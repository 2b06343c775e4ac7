use Rattle.std.proofs.Common.{◌≡◌, map, take}
use Rattle.materialise.proofs.stack.saved_places.Given as goal
use Rattle.materialise.specs.Inner.StackWords.{place_and_unit}

abbrev pub invariant-loop-entry : goal.invariant-loop-entry
invariant-loop-entry l = l.places ≡ map (place_and_unit l.units) (take l.entry-index l.saved)
