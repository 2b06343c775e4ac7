use Rattle.std.proofs.lemmas.Result.{err_from_is_err_and}
use Rattle.class_bytes.proofs.Attributes.{next_below, refuses, one_more}
use Rattle.class_bytes.proofs.methods.check_method_attrs.Goals as goal

pub check_method_attr-requires-clause-fits : goal.check_method_attr-requires-clause-fits
check_method_attr-requires-clause-fits c =
    next_below _ _ _ _ _ _ _ _ c.loop-attr.attr-index _ c.loop-attr-test.true c.loop-attr.invariant c.requires.fits

pub returns-in_err-has_code : goal.returns-in_err-has_code
returns-in_err-has_code c =
    let p = err_from_is_err_and c.from_residual.result c.from_residual.ensures.1 in
    rw (p.1, p.2) (refuses _ _ _ _ _ _ _ _ c.loop-attr.attr-index _ c.loop-attr-test.true c.loop-attr.invariant _ c.in_err-has_code.ensures)

pub loop-attr-preserved : goal.loop-attr-preserved
loop-attr-preserved c = one_more _ _ _ _ _ _ _ _ c.loop-attr.attr-index _ c.loop-attr-test.true c.loop-attr.invariant _ c.in_ok-has_code.ensures
