use Rattle.std.proofs.Common.{drop}
use Rattle.std.specs.List.{flat_map}
use Rattle.stackmap_emit.proofs.classes.add_types.Given as goal
use Rattle.stackmap_emit.specs.FrameConstants.{type_needs}
use Rattle.stackmap_emit.specs.Inner.ClassIndices.{AddsBefore}

abbrev pub invariant-loop-entry : goal.invariant-loop-entry
invariant-loop-entry l =
    AddsBefore l.fn.pool l.fn.noted (flat_map type_needs l.types) (flat_map type_needs (drop l.entry-index l.types)) l.pool l.noted
