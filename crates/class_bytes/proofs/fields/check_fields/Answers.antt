use Rattle.std.proofs.lemmas.Result.{err_from_is_err_and}
use Rattle.class_bytes.proofs.Members.{member_refused, one_behind}
use Rattle.class_bytes.proofs.fields.check_fields.Goals as goal

pub returns-in_err-place : goal.returns-in_err-place
returns-in_err-place c =
    let p = err_from_is_err_and c.from_residual-in_err-place.result c.from_residual-in_err-place.ensures.1 in
    rw (p.1, p.2) (member_refused _ _ _ _ _ _ _ c.loop-field.field-index _ c.loop-field-test.true c.field-item.is c.loop-field.invariant _ _ (c.in_ok-is_again.ensures _) _ c.in_err-place.ensures)

pub loop-field-preserved : goal.loop-field-preserved
loop-field-preserved c = one_behind _ _ _ _ _ _ _ c.loop-field.field-index _ c.loop-field-test.true c.field-item.is c.loop-field.invariant _ _ (c.in_ok-is_again.ensures _) _ c.in_ok-place.ensures
