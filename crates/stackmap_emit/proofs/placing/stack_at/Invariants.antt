use Rattle.std.proofs.Common.{◌≡◌, map, take}
use Rattle.stackmap_emit.proofs.placing.stack_at.Given as goal
use Rattle.stackmap_emit.specs.PlacedFrames.{type_at}
use Rattle.stackmap_emit.specs.Inner.PlacedUnits.{number_by}

abbrev pub invariant-loop-entry : goal.invariant-loop-entry
invariant-loop-entry l = l.placed ≡ map (type_at (number_by l.starts.numbers.now l.starts.other)) (take l.entry-index l.types)
