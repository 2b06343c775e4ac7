use Rattle.std.proofs.Common.{◌≡◌, ◌-◌, drop, length}
use Rattle.code_drafts.proofs.field_locals.clear_types.Given as goal
use Rattle.code_drafts.specs.Puts.{PutsRest}
use Rattle.making_code.specs.Units.{field_unit}
use Rattle.materialise.specs.Inner.UnitWords.{kept_unit}
use Rattle.plan_flow.specs.Written.Templates.{cleared_fields}

abbrev pub decreases-loop-of_type : goal.decreases-loop-of_type
decreases-loop-of_type l = length l.types - l.number

abbrev pub invariant-loop-of_type : goal.invariant-loop-of_type
invariant-loop-of_type l =
    PutsRest l.units l.fn.kept (cleared_fields l.site 0 l.types) l.kept (cleared_fields l.site l.number (drop l.number l.types))
    × (l.unit ≡ kept_unit l.units (field_unit l.site l.number))
