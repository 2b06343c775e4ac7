use Rattle.std.proofs.Common.{◌≡◌}
use Rattle.pool_bytes.proofs.kinds.Checker.new.Given as goal

abbrev pub invariant-loop-index : goal.invariant-loop-index
invariant-loop-index l = l.checker ≡ l.pool
