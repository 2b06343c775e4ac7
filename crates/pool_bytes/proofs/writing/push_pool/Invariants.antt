use Rattle.std.proofs.Common.{◌≡◌, ◌++◌, length, take}
use Rattle.std.specs.List.{flat_map}
use Rattle.class_model.specs.Spelling.{u2, entry_bytes}
use Rattle.pool_bytes.specs.Items.{PoolFits}
use Rattle.pool_bytes.proofs.writing.push_pool.Given as goal

abbrev pub invariant-loop-index : goal.invariant-loop-index
invariant-loop-index l = record {
  written : l.out.items ≡ l.fn.out.items ++ (u2 (length l.pool) ++ flat_map entry_bytes (take l.index l.pool));
  fits : PoolFits (take l.index l.pool);
}
