use Rattle.std.proofs.Common.{arith}
use Rattle.std.proofs.lemmas.Result.{err_from_is_err_and}
use Rattle.class_bytes.proofs.ExceptionTable.{entry_refused, entry_more, over_code}
use Rattle.class_bytes.proofs.handlers.check_handlers.Goals as goal

pub returns-in_err-check_handler : goal.returns-in_err-check_handler
returns-in_err-check_handler c =
    let p = err_from_is_err_and c.from_residual-in_err-check_handler.result c.from_residual-in_err-check_handler.ensures.1 in
    rw (p.1, p.2) (entry_refused _ _ _ _ _ _ c.loop-handler.handler-index _ c.loop-handler-test.true c.loop-handler.invariant.1 _ (over_code _ _ _ _ _ _ _ c.in_ok-code.ensures c.in_err-check_handler.ensures))

pub loop-handler-preserved : goal.loop-handler-preserved
loop-handler-preserved c =
    (omega arith, entry_more _ _ _ _ _ _ c.loop-handler.handler-index _ c.loop-handler-test.true c.loop-handler.invariant.1 tt (rw c.in_ok-code.ensures at c.in_ok-check_handler.ensures))
