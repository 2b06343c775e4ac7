use Rattle.std.proofs.Common.{length}
use Rattle.machine_step.proofs.Arguments.{Left}
use Rattle.machine_step.proofs.questions.conforming.arguments_conform.Given as goal

abbrev pub decreases-loop-types : goal.decreases-loop-types
decreases-loop-types l = length l.types

abbrev pub invariant-loop-types : goal.invariant-loop-types
invariant-loop-types l = Left l.tree l.heap l.desc l.types l.fn.values l.values
