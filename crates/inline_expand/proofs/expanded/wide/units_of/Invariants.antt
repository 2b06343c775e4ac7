use Rattle.std.proofs.Common.{◌≡◌, ◌+◌, ◌≤◌, drop}
use Rattle.class_model.specs.Descriptors.{parameter_units}
use Rattle.inline_expand.specs.Inner.WideWords.{counted}
use Rattle.inline_expand.proofs.expanded.wide.units_of.Given as goal

abbrev pub invariant-loop-field_type : goal.invariant-loop-field_type
invariant-loop-field_type l = record {
  few : l.units ≤ 18446744073709551615;
  all : counted (l.units + parameter_units (drop l.field_type-index l.types)) ≡ counted (parameter_units l.types);
}
