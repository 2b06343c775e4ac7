use Rattle.std.proofs.Common.{length}
use Rattle.machine_run.specs.Inner.Unwinding.{AreEnding}
use Rattle.machine_run.proofs.unwinding.end_methods.Given as goal

abbrev pub invariant-loop-w : goal.invariant-loop-w
invariant-loop-w l = AreEnding l.left l.fn.w l.w

abbrev pub decreases-loop-w : goal.decreases-loop-w
decreases-loop-w l = length l.w.frames
