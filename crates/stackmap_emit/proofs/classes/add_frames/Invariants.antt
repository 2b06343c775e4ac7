use Rattle.std.proofs.Common.{[], drop}
use Rattle.stackmap_emit.proofs.classes.add_frames.Given as goal
use Rattle.stackmap_emit.specs.FramesAttribute.{placed_needs}
use Rattle.stackmap_emit.specs.Inner.ClassIndices.{AddsBefore}

abbrev pub invariant-loop-placed : goal.invariant-loop-placed
invariant-loop-placed l =
    AddsBefore l.fn.pool [] (placed_needs l.frames) (placed_needs (drop l.placed-index l.frames)) l.pool l.noted
