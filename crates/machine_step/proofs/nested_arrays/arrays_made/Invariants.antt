use Rattle.machine_step.specs.Inner.NestedArrays.{IsMadeTo}
use Rattle.std.proofs.Common.{drop}
use Rattle.machine_step.proofs.nested_arrays.arrays_made.Given as goal

abbrev pub invariant-loop-count : goal.invariant-loop-count
invariant-loop-count l = IsMadeTo l.counts l.made l.product l.count-index (drop l.count-index l.counts)
