use Rattle.std.proofs.Common.{ℕ, [], Some, sym, ap, ◌∙◌}
use Rattle.plan_flow.specs.Inner.RowViews.{asked_by, plan_row}
use Rattle.plan_flow.specs.PlanRows.{put_field, where_plain}
use Rattle.plan_flow.specs.PlanScope.{scope_of}
use Rattle.plan_flow.specs.PlanTable.{moving, operand, library_operands, put_field_row}
use Rattle.plan_flow.proofs.RowUpdates.{updated_all}
use Rattle.plan_flow.proofs.table.put_field_row.Goals as goal

pub returns : goal.returns
returns c = λ links flat.
    let f = c.args.types.now in
    let s = scope_of c.args.tree.now links flat in
    let field = c.in-Some.field in
    let place = c.operand-place.result in
    let value = c.operand.result in
    updated_all (plan_row f c.moving-2.result) (moving f 2 [])
    (asked_by f c.library_operands.result) (library_operands s f field 2)
    (Some (where_plain place)) (Some (where_plain (operand f 1)))
    (put_field place field value) (put_field (operand f 1) field (operand f 0))
    c.moving-2.ensures.is (c.library_operands.ensures f links flat) (ap (λ (place : ℕ). Some (where_plain place)) c.operand-place.ensures)
    (λ i. put_field (c.operand-place.ensures i) field (c.operand.ensures i))
    ∙ ap (put_field_row s f) (sym c.in-Some.is)
