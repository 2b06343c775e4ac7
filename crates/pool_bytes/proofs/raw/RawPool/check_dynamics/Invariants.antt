use Rattle.std.proofs.Common.{drop}
use Rattle.class_model.specs.ClassOf.{bootstrap_index_checks}
use Rattle.pool_bytes.proofs.AnswerParts.{Left}
use Rattle.pool_bytes.proofs.raw.RawPool.check_dynamics.Given as goal

abbrev pub invariant-loop-index : goal.invariant-loop-index
invariant-loop-index l = Left (bootstrap_index_checks l.count) l.at l.place l.self (drop l.index l.self)
