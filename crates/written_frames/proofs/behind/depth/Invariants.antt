use Rattle.written_frames.proofs.behind.depth.Given as goal
use Rattle.written_frames.specs.Inner.Rooms.{SumsDepth}

abbrev pub invariant-loop-entry : goal.invariant-loop-entry
invariant-loop-entry l = SumsDepth l.entries l.units l.entry-index
