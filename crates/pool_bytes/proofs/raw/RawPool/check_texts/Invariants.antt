use Rattle.std.proofs.Common.{drop}
use Rattle.class_model.specs.Header.{texts_checks}
use Rattle.pool_bytes.proofs.AnswerParts.{Left}
use Rattle.pool_bytes.proofs.raw.RawPool.check_texts.Given as goal

abbrev pub invariant-loop-index : goal.invariant-loop-index
invariant-loop-index l = Left texts_checks l.at l.place l.self (drop l.index l.self)
