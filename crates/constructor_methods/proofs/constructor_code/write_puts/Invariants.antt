use Rattle.std.proofs.Common.{◌+◌, ◌≤◌, drop}
use Rattle.making_code.specs.FieldConstructor.{units_of_fields}
use Rattle.constructor_methods.proofs.ConstructLaws.{PutsRest, instance_of}
use Rattle.constructor_methods.proofs.constructor_code.write_puts.Given as goal

abbrev pub invariant-loop-field : goal.invariant-loop-field
invariant-loop-field l =
    PutsRest l.header.name l.from (instance_of l.header.fields) l.fn.pool l.fn.instrs.items l.pool l.instrs.items l.unit (instance_of (drop l.field-index l.header.fields))
    × (l.unit + units_of_fields (instance_of (drop l.field-index l.header.fields)) ≤ 65)
