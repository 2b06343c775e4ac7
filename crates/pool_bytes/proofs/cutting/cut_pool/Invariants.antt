use Rattle.std.proofs.Common.{◌-◌, length}
use Rattle.pool_bytes.specs.Behind.{IsBehind}
use Rattle.pool_bytes.proofs.Cuts.{SoFar}
use Rattle.pool_bytes.proofs.cutting.cut_pool.Given as goal

abbrev pub invariant-loop-pool : goal.invariant-loop-pool
invariant-loop-pool l = record {
  so_far : SoFar l.major l.count l.fn.cursor l.pool l.cursor;
  behind : IsBehind l.fn.cursor l.cursor;
}

abbrev pub decreases-loop-pool : goal.decreases-loop-pool
decreases-loop-pool l = l.count - length l.pool
