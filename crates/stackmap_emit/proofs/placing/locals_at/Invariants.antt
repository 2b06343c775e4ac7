use Rattle.stackmap_emit.proofs.placing.locals_at.Given as goal
use Rattle.stackmap_emit.specs.Inner.PlacedUnits.{ArePlacedBefore, number_by}

abbrev pub invariant-loop-at : goal.invariant-loop-at
invariant-loop-at l = ArePlacedBefore (number_by l.starts.numbers.now l.starts.other) l.units l.at l.placed
