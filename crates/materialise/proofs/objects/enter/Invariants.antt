use Rattle.std.proofs.Common.{◌≡◌, ◌-◌, ℕ}
use Rattle.flow_code.specs.FlatCode.{FlatCode}
use Rattle.making_code.specs.MakeCode.{enters}
use Rattle.making_code.specs.Units.{object_unit}
use Rattle.materialise.proofs.objects.enter.Given as goal
use Rattle.materialise.specs.Inner.CodeWords.{WritesRest}
use Rattle.materialise.specs.Inner.UnitWords.{kept_unit}

abbrev pub invariant-loop : goal.invariant-loop
invariant-loop l =
    (flat : FlatCode) (site : ℕ)
    → kept_unit flat (object_unit site) ≡ l.unit
    → WritesRest flat l.fn.instrs.items (enters site l.depth) l.instrs.items (enters site (l.depth - l.counter))
