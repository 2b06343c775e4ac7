use Rattle.std.proofs.Common.{length}
use Rattle.machine_run.proofs.GivenValues.{Gives}
use Rattle.machine_run.proofs.acting.given.given_values.Given as goal

abbrev pub invariant-loop-one : goal.invariant-loop-one
invariant-loop-one l = Gives l.known l.given l.rest l.values.items

abbrev pub decreases-loop-one : goal.decreases-loop-one
decreases-loop-one l = length l.rest
