use Rattle.std.proofs.Common.{drop}
use Rattle.class_model.specs.PoolChecks.{entries_checks}
use Rattle.pool_bytes.proofs.AnswerParts.{Left}
use Rattle.pool_bytes.proofs.kinds.Checker.check_all.Given as goal

abbrev pub invariant-loop-index : goal.invariant-loop-index
invariant-loop-index l = Left (entries_checks l.major l.self) l.at l.place l.self (drop l.index l.self)
