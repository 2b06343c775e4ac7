use Rattle.materialise.proofs.UnitLaws.{SumsUnits}
use Rattle.materialise.proofs.units.units_of_fields.Given as goal

abbrev pub invariant-loop-field : goal.invariant-loop-field
invariant-loop-field l = SumsUnits l.fields l.units l.field-index
