use Rattle.std.proofs.Common.{take}
use Rattle.pool_edit.specs.Inner.Known.{KnowsFirst}
use Rattle.pool_edit.proofs.known.first_indices.Given as goal

abbrev pub invariant-loop-index : goal.invariant-loop-index
invariant-loop-index l = KnowsFirst (take l.index l.pool) l.known
