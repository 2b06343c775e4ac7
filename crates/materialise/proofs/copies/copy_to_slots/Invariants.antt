use Rattle.std.proofs.Common.{◌≡◌, drop}
use Rattle.making_code.specs.MakeCode.{copy_fields_from}
use Rattle.making_code.specs.Units.{field_unit}
use Rattle.materialise.proofs.copies.copy_to_slots.Given as goal
use Rattle.materialise.specs.Inner.CodeWords.{WritesRest}
use Rattle.materialise.specs.Inner.UnitWords.{kept_unit}

abbrev pub invariant-loop-number : goal.invariant-loop-number
invariant-loop-number l =
    WritesRest l.units l.fn.instrs.items (copy_fields_from l.sites l.object.site 0 l.object.fields) l.instrs.items
    (copy_fields_from l.sites l.object.site l.number (drop l.number l.object.fields))
    × (l.unit ≡ kept_unit l.units (field_unit l.object.site l.number))
