use Rattle.std.proofs.lemmas.Result.{err_from_is_err_and}
use Rattle.class_model.specs.Laws.Checks.{asked_at, passes}
use Rattle.class_tree.specs.Headers.{headers_of}
use Rattle.class_tree.specs.Laws.Links.{fails}
use Rattle.member_link.specs.Declarations.{declared_field_checks}
use Rattle.member_link.proofs.declarations.check_fields.Goals as goal

pub returns-in_err-ask_at : goal.returns-in_err-ask_at
returns-in_err-ask_at c =
    let p = err_from_is_err_and c.from_residual-in_err-ask_at.result c.from_residual-in_err-ask_at.ensures.1 in
    rw (p.1, p.2) (fails _ _ (asked_at (declared_field_checks (headers_of c.args.tree.now) c.args.header.now) c.as_slice-field-items.result.now c.loop-field.field-index c.field-item.result c.loop-field-test.true c.field-item.is c.loop-field.invariant.1) c.in_ok-is_there.ensures c.in_err-ask_at.ensures)

pub loop-field-preserved : goal.loop-field-preserved
loop-field-preserved c =
    let left = asked_at (declared_field_checks (headers_of c.args.tree.now) c.args.header.now) c.as_slice-field-items.result.now c.loop-field.field-index c.field-item.result c.loop-field-test.true c.field-item.is c.loop-field.invariant.1 in
    let there = c.in_ok-is_there.ensures.0 c.in_ok-ask_at.ensures.0 in
    (there, passes left there)
