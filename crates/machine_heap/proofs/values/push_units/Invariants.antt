use Rattle.std.proofs.Common.{◌≡◌, ◌++◌, take}
use Rattle.machine_values.specs.Values.{units_of_values}
use Rattle.machine_heap.proofs.values.push_units.Given as goal

abbrev pub invariant-loop-value : goal.invariant-loop-value
invariant-loop-value l =
    l.units.items ≡ l.initial.units.items ++ units_of_values (take l.value-index l.values)
