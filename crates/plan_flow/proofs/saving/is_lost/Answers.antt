use Rattle.std.proofs.Common.{◌∙◌}
use Rattle.plan_flow.proofs.PlanEdges.{lost_own}
use Rattle.plan_flow.proofs.saving.is_lost.Goals as goal

pub returns : goal.returns
returns c = c.is_lost_on.ensures ∙ lost_own c.args.plan.now c.args.site c.own.result.now c.args.edges.now c.own.ensures
