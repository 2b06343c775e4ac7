use Rattle.std.proofs.Common.{◌≡◌, ◌+◌, drop}
use Rattle.making_code.specs.FieldConstructor.{units_of_fields}
use Rattle.constructor_methods.proofs.ConstructLaws.{instance_of}
use Rattle.constructor_methods.proofs.constructor_method.own_units.Given as goal

abbrev pub invariant-loop-field : goal.invariant-loop-field
invariant-loop-field l =
    l.units + units_of_fields (instance_of (drop l.field-index l.header.fields)) ≡ units_of_fields (instance_of l.header.fields)
