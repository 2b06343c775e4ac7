use Rattle.std.proofs.Common.{sym, ap, ◌∙◌}
use Rattle.plan_flow.specs.Inner.RowViews.{change_of, plan_row}
use Rattle.plan_flow.specs.PlanScope.{scope_of}
use Rattle.plan_flow.specs.PlanSlots.{edge_stack, slots_from}
use Rattle.plan_flow.specs.declared.edge.EdgeKind.{EdgeKind}
use Rattle.plan_flow.proofs.sources.edge_stack.Goals as goal

pub returns-in_ok-pushed_stack-in-Next : goal.returns-in_ok-pushed_stack-in-Next
returns-in_ok-pushed_stack-in-Next c = λ links.
    let s = scope_of c.args.tree.now links c.args.flat.now in
    c.in_ok-pushed_stack-in-Next.ensures links
    ∙ ap (λ (by : EdgeKind). slots_from s c.args.state.now (change_of c.args.row.now.change) (edge_stack (plan_row c.args.types.now c.args.row.now) by)) (sym c.in-Next.is)

pub returns-in_ok-pushed_stack-in-Jump : goal.returns-in_ok-pushed_stack-in-Jump
returns-in_ok-pushed_stack-in-Jump c = λ links.
    let s = scope_of c.args.tree.now links c.args.flat.now in
    c.in_ok-pushed_stack-in-Jump.ensures links
    ∙ ap (λ (by : EdgeKind). slots_from s c.args.state.now (change_of c.args.row.now.change) (edge_stack (plan_row c.args.types.now c.args.row.now) by)) (sym c.in-Jump.is)
