use Rattle.std.proofs.Common.{ℕ, [], ◌∷◌, Some, sym, ap, ◌∙◌}
use Rattle.plan_flow.specs.Inner.RowViews.{asked_by, plan_row}
use Rattle.plan_flow.specs.PlanRows.{from_field, where_plain, PlanRow}
use Rattle.plan_flow.specs.PlanScope.{scope_of}
use Rattle.plan_flow.specs.PlanTable.{moving, operand, library_operands, get_field_row}
use Rattle.plan_flow.proofs.RowUpdates.{updated}
use Rattle.plan_flow.proofs.table.get_field_row.Goals as goal

pub returns : goal.returns
returns c = λ links flat.
    let f = c.args.types.now in
    let s = scope_of c.args.tree.now links flat in
    let field = c.in-Some.field in
    let placed : PlanRow = get_field_row s f (Some field) in
    let row = c.moving-2.ensures.is ∙ ap (λ (place : ℕ). moving f 1 (from_field place field ∷ [])) c.operand-place.ensures in
    updated (plan_row f c.moving-2.result) (moving f 1 (from_field (operand f 0) field ∷ []))
    (asked_by f c.library_operands.result) (library_operands s f field 1)
    (Some (where_plain c.operand-place.result)) (Some (where_plain (operand f 0)))
    row (c.library_operands.ensures f links flat) (ap (λ (place : ℕ). Some (where_plain place)) c.operand-place.ensures)
    ∙ ap (get_field_row s f) (sym c.in-Some.is)
