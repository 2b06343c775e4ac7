use Rattle.std.proofs.Common.{◌≡◌, ◌+◌, ◌≤◌, ◌++◌, ℕ, drop, map}
use Rattle.std.specs.List.{AllByRecursion}
use Rattle.class_model.specs.Descriptors.{parameter_units}
use Rattle.expanded_code.specs.Expanded.{arguments_from}
use Rattle.inline_expand.proofs.expanded.shapes.push_parameters.Given as goal
use Rattle.inline_expand.specs.Inner.Layouts.{EndsBy, argument_from}

abbrev pub invariant-loop-field_type : goal.invariant-loop-field_type
invariant-loop-field_type l = record {
  units : l.unit + parameter_units (drop l.field_type-index l.types) ≡ l.first + parameter_units l.types;
  each : (from : ℕ) → map (argument_from from) l.parameters.items ++ arguments_from (from + l.unit) (drop l.field_type-index l.types) ≡ map (argument_from from) l.fn.parameters.items ++ arguments_from (from + l.first) l.types;
  inside : (end : ℕ) → l.first + parameter_units l.types ≤ end → AllByRecursion (EndsBy end) l.fn.parameters.items → AllByRecursion (EndsBy end) l.parameters.items;
}
