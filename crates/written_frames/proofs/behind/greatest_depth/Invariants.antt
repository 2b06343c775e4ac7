use Rattle.written_frames.proofs.behind.greatest_depth.Given as goal
use Rattle.written_frames.specs.Inner.Rooms.{IsDeepest}

abbrev pub invariant-loop-at : goal.invariant-loop-at
invariant-loop-at l = IsDeepest l.flat.points l.greatest l.at
