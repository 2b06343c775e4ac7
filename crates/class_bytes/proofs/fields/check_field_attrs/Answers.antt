use Rattle.std.proofs.lemmas.Result.{err_from_is_err_and}
use Rattle.class_bytes.proofs.Attributes.{refuses, one_more}
use Rattle.class_bytes.proofs.fields.check_field_attrs.Goals as goal

pub returns-in_err-has_value : goal.returns-in_err-has_value
returns-in_err-has_value c =
    let p = err_from_is_err_and c.from_residual.result c.from_residual.ensures.1 in
    rw (p.1, p.2) (refuses _ _ _ _ _ _ _ _ c.loop-attr.attr-index _ c.loop-attr-test.true c.loop-attr.invariant _ c.in_err-has_value.ensures)

pub loop-attr-preserved : goal.loop-attr-preserved
loop-attr-preserved c = one_more _ _ _ _ _ _ _ _ c.loop-attr.attr-index _ c.loop-attr-test.true c.loop-attr.invariant _ c.in_ok-has_value.ensures
