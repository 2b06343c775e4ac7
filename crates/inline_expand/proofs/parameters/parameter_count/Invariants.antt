use Rattle.std.proofs.Common.{◌≡◌, ◌+◌, ◌≤◌, length}
use Rattle.class_model.specs.Descriptors.{parameters_of, types_before}
use Rattle.inline_expand.proofs.parameters.parameter_count.Given as goal

abbrev pub invariant-loop-after : goal.invariant-loop-after
invariant-loop-after l = record {
  counted : l.count + length (types_before (length l.rest) l.rest) ≡ length (parameters_of l.desc);
  bound : l.count + length l.rest ≤ length l.desc;
}

abbrev pub decreases-loop-after : goal.decreases-loop-after
decreases-loop-after l = length l.rest
