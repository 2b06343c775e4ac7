use Rattle.std.proofs.Common.{◌≡◌, ◌≤◌}
use Rattle.code_drafts.proofs.field_locals.unit_of_field.Given as goal
use Rattle.making_code.specs.Units.{field_unit}
use Rattle.materialise.specs.Inner.UnitWords.{kept_unit}

abbrev pub invariant-loop-before : goal.invariant-loop-before
invariant-loop-before l = (l.unit ≡ kept_unit l.units (field_unit l.site l.before)) × (l.before ≤ l.number)
