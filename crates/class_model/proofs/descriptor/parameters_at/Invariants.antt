use Rattle.std.proofs.Common.{length}
use Rattle.class_model.proofs.Parameters.{Read}
use Rattle.class_model.proofs.descriptor.parameters_at.Given as goal

abbrev pub invariant-loop-after : goal.invariant-loop-after
invariant-loop-after l = Read l.bytes l.params l.units l.rest

abbrev pub decreases-loop-after : goal.decreases-loop-after
decreases-loop-after l = length l.rest
