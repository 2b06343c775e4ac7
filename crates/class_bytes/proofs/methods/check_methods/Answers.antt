use Rattle.std.proofs.lemmas.Result.{err_from_is_err_and}
use Rattle.class_bytes.proofs.Members.{member_below, member_refused, one_behind}
use Rattle.class_bytes.proofs.methods.check_methods.Goals as goal

pub returns-in_err-place : goal.returns-in_err-place
returns-in_err-place c =
    let p = err_from_is_err_and c.from_residual-in_err-place.result c.from_residual-in_err-place.ensures.1 in
    rw (p.1, p.2) (member_refused _ _ _ _ _ _ _ c.loop-method.method-index _ c.loop-method-test.true c.method-item.is c.loop-method.invariant _ _ (c.in_ok-is_again.ensures _) _ c.in_err-place.ensures)

pub loop-method-preserved : goal.loop-method-preserved
loop-method-preserved c = one_behind _ _ _ _ _ _ _ c.loop-method.method-index _ c.loop-method-test.true c.method-item.is c.loop-method.invariant _ _ (c.in_ok-is_again.ensures _) _ c.in_ok-place.ensures

pub check_method-requires-clause-fits : goal.check_method-requires-clause-fits
check_method-requires-clause-fits c = member_below _ _ _ _ _ _ _ c.loop-method.method-index _ c.loop-method-test.true c.method-item.is c.loop-method.invariant c.requires.fits
