use Rattle.std.proofs.Common.{◌≡◌, drop}
use Rattle.machine_heap.specs.Inner.Kinds.{are_of_kinds}
use Rattle.machine_heap.proofs.values.have_kinds.Given as goal

abbrev pub invariant-loop-at : goal.invariant-loop-at
invariant-loop-at l =
    are_of_kinds (drop l.at l.kinds) (drop l.at l.values) ≡ are_of_kinds l.kinds l.values
