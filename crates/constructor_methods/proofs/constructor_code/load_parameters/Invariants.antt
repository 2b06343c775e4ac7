use Rattle.std.proofs.Common.{◌+◌, ◌≤◌, drop}
use Rattle.constructor_methods.proofs.ConstructLaws.{LoadsRest}
use Rattle.constructor_methods.proofs.constructor_code.load_parameters.Given as goal
use Rattle.constructor_methods.specs.Inner.ConstructorWords.{units_of_descs}

abbrev pub invariant-loop-desc : goal.invariant-loop-desc
invariant-loop-desc l =
    LoadsRest l.descs l.from l.fn.instrs.items l.instrs.items l.unit (drop l.desc-index l.descs)
    × (l.unit + units_of_descs (drop l.desc-index l.descs) ≤ 65)
