use Rattle.std.proofs.lemmas.Result.{err_from_is_err_and}
use Rattle.class_bytes.proofs.Tables.{method_refused, one_behind}
use Rattle.class_bytes.proofs.bootstraps.check_bootstraps.Goals as goal

pub returns-in_err-check_bootstrap : goal.returns-in_err-check_bootstrap
returns-in_err-check_bootstrap c =
    let p = err_from_is_err_and c.from_residual.result c.from_residual.ensures.1 in
    rw (p.1, p.2) (method_refused _ _ _ _ _ c.loop-method.method-index _ c.loop-method-test.true c.method-item.is c.loop-method.invariant _ c.in_err-check_bootstrap.ensures)

pub loop-method-preserved : goal.loop-method-preserved
loop-method-preserved c =
    rw c.len.ensures (one_behind _ _ _ _ _ c.loop-method.method-index _ c.loop-method-test.true c.method-item.is c.loop-method.invariant _ c.in_ok-check_bootstrap.ensures)
