use Rattle.std.proofs.lemmas.Result.{err_from_is_err_and}
use Rattle.class_bytes.proofs.Inners.{inner_below, inner_refused, inner_more}
use Rattle.class_bytes.proofs.frames.check_inners.Goals as goal

pub check_inner-requires-clause-fits : goal.check_inner-requires-clause-fits
check_inner-requires-clause-fits c =
    inner_below _ _ _ _ _ _ _ c.loop-attr.attr-index _ c.loop-attr-test.true c.loop-attr.invariant c.requires.fits

pub returns-in_err-has_table : goal.returns-in_err-has_table
returns-in_err-has_table c =
    let p = err_from_is_err_and c.from_residual.result c.from_residual.ensures.1 in
    rw (p.1, p.2) (inner_refused _ _ _ _ _ _ _ c.loop-attr.attr-index _ c.loop-attr-test.true c.loop-attr.invariant _ c.in_err-has_table.ensures)

pub loop-attr-preserved : goal.loop-attr-preserved
loop-attr-preserved c = inner_more _ _ _ _ _ _ _ c.loop-attr.attr-index _ c.loop-attr-test.true c.loop-attr.invariant _ c.in_ok-has_table.ensures
