use Rattle.std.proofs.Common.{◌-◌, length}
use Rattle.pool_bytes.proofs.Copies.{IsCopied}
use Rattle.pool_bytes.proofs.raw.RawPool.to_pool.Given as goal

abbrev pub invariant-loop-constant : goal.invariant-loop-constant
invariant-loop-constant l = IsCopied l.self l.pool

abbrev pub decreases-loop-constant : goal.decreases-loop-constant
decreases-loop-constant l = 65535 - length l.pool
