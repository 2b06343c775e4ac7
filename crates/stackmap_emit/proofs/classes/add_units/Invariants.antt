use Rattle.std.proofs.Common.{drop}
use Rattle.std.specs.List.{flat_map}
use Rattle.stackmap_emit.proofs.classes.add_units.Given as goal
use Rattle.stackmap_emit.specs.FrameConstants.{type_needs}
use Rattle.stackmap_emit.specs.Inner.ClassIndices.{AddsBefore}

abbrev pub invariant-loop-at : goal.invariant-loop-at
invariant-loop-at l =
    AddsBefore l.fn.pool l.fn.noted (flat_map type_needs l.locals) (flat_map type_needs (drop l.at l.locals)) l.pool l.noted
