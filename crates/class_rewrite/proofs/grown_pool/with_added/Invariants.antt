use Rattle.std.proofs.Common.{◌≡◌, ◌++◌, take}
use Rattle.std.specs.List.{flat_map}
use Rattle.std.specs.Map.{keys_of}
use Rattle.class_model.specs.Pool.{entries_of}
use Rattle.class_rewrite.proofs.grown_pool.with_added.Given as goal

abbrev pub invariant-loop-at : goal.invariant-loop-at
invariant-loop-at l = l.all ≡ l.fn.pool ++ flat_map entries_of (take l.at (keys_of l.added.entries))
