use Rattle.std.proofs.Common.{drop}
use Rattle.flow_code.specs.FlatCode.{point_at}
use Rattle.making_code.specs.MakeCode.{copy_locals_from, local_slots_in}
use Rattle.materialise.proofs.copies.copy_to_locals.Given as goal
use Rattle.materialise.specs.Inner.CodeWords.{WritesRest}

abbrev pub invariant-loop-unit : goal.invariant-loop-unit
invariant-loop-unit l =
    WritesRest l.units l.fn.instrs.items (copy_locals_from l.sites 0 (local_slots_in (point_at l.units l.at) l.state)) l.instrs.items
    (copy_locals_from l.sites l.unit (drop l.unit (local_slots_in (point_at l.units l.at) l.state)))
