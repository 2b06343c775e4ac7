use Rattle.std.proofs.Common.{◌++◌, sym, ap, ◌∙◌}
use Rattle.plan_flow.specs.Inner.RowViews.{change_of, given_by}
use Rattle.plan_flow.specs.PlanScope.{scope_of}
use Rattle.plan_flow.specs.PlanSlots.{slots_from}
use Rattle.plan_flow.specs.declared.rows.Gives.{Gives}
use Rattle.plan_flow.proofs.sources.push_given.Goals as goal

pub returns-in_ok-push_operands-in-Operands : goal.returns-in_ok-push_operands-in-Operands
returns-in_ok-push_operands-in-Operands c = λ links.
    let s = scope_of c.args.tree.now links c.args.flat.now in
    let by = change_of c.args.row.now.change in
    c.in_ok-push_operands-in-Operands.ensures s by
    ∙ ap (λ (gives : Gives). c.args.list.now.items ++ slots_from s c.args.state.now by (given_by c.args.types.now gives)) (sym c.in-Operands.is)
