use Rattle.plan_flow.proofs.PlanEdges.{caught_thrown}
use Rattle.plan_flow.specs.Inner.Sharing.{made_in}
use Rattle.plan_flow.proofs.plan.ThrownPlan.of.Goals as goal

pub returns-clause-thrown : goal.returns-clause-thrown
returns-clause-thrown c = caught_thrown (made_in c.args.made) 0 c.args.handlers
