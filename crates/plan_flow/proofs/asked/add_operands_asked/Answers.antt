use Rattle.std.proofs.Common.{sym, subst}
use Rattle.plan_flow.specs.Inner.Asking.{HasAdded, IsAskedIn}
use Rattle.plan_flow.specs.Inner.RowViews.{asked_by}
use Rattle.plan_flow.specs.PlanScope.{scope_of}
use Rattle.plan_flow.specs.declared.rows.Asks.{Asks}
use Rattle.plan_flow.proofs.asked.add_operands_asked.Goals as goal

pub returns-in_ok-add_operands-in-Operands : goal.returns-in_ok-add_operands-in-Operands
returns-in_ok-add_operands-in-Operands c = λ links are.
    let s = scope_of c.args.tree.now links c.args.flat.now in
    subst (λ (asks : Asks). HasAdded c.args.sites.now c.add_operands.new.sites (IsAskedIn s c.args.state.now (asked_by c.args.types.now asks)))
    (sym c.in-Operands.is) (c.in_ok-add_operands-in-Operands.ensures s)
