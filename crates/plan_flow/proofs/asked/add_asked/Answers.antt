use Rattle.plan_flow.specs.Inner.RowViews.{asked_by, change_of}
use Rattle.plan_flow.specs.PlanScope.{scope_of}
use Rattle.plan_flow.specs.PlanTable.{change_asks}
use Rattle.plan_flow.proofs.Adding.{added_lists}
use Rattle.plan_flow.proofs.asked.add_asked.Goals as goal

pub returns : goal.returns
returns c = λ links are.
    let s = scope_of c.args.tree.now links c.args.flat.now in
    added_lists s c.args.state.now (asked_by c.args.types.now c.args.row.now.asks) (change_asks (change_of c.args.row.now.change))
    (c.in_ok-add_operands_asked.ensures links are) (c.in_ok-add_change_asked.ensures s)
