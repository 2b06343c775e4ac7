use Rattle.std.proofs.Common.{◌≡◌, ◌+◌, drop}
use Rattle.constructor_methods.proofs.field_kinds.field_units.Given as goal
use Rattle.constructor_methods.specs.Inner.ConstructorWords.{units_of_descs}

abbrev pub invariant-loop-desc : goal.invariant-loop-desc
invariant-loop-desc l = l.units + units_of_descs (drop l.desc-index l.descs) ≡ units_of_descs l.descs
