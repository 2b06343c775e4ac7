use Rattle.std.proofs.Common.{sym, ap, ◌∙◌}
use Rattle.plan_flow.specs.Inner.RowViews.{change_of}
use Rattle.plan_flow.specs.PlanScope.{scope_of}
use Rattle.plan_flow.specs.PlanSlots.{changed}
use Rattle.plan_flow.specs.declared.rows.Change.{Change}
use Rattle.plan_flow.proofs.changes.changed.Goals as goal

pub returns-in_ok-new_object-in-New : goal.returns-in_ok-new_object-in-New
returns-in_ok-new_object-in-New c = λ links.
    c.in_ok-new_object-in-New.ensures c.args.tree.now links c.args.state.now
    ∙ ap (λ (by : Change). changed (scope_of c.args.tree.now links c.args.flat.now) c.args.state.now (change_of by)) (sym c.in-New.is)
