use Rattle.std.proofs.Common.{length}
use Rattle.class_model.proofs.DescriptorShapes.{ReadUnits}
use Rattle.class_model.proofs.descriptor_bytes.parameter_units_at.Given as goal

abbrev pub invariant-loop-after : goal.invariant-loop-after
invariant-loop-after l = ReadUnits l.bytes l.units l.rest

abbrev pub decreases-loop-after : goal.decreases-loop-after
decreases-loop-after l = length l.rest
