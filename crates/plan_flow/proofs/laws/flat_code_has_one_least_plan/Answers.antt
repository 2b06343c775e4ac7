use Rattle.plan_flow.proofs.LeastPlans.{least_plan_of}
use Rattle.plan_flow.proofs.PlanLaws.{least_is_one}
use Rattle.plan_flow.proofs.laws.flat_code_has_one_least_plan.Goals as goal

pub returns-clause-some : goal.returns-clause-some
returns-clause-some c = least_plan_of

pub returns-clause-one : goal.returns-clause-one
returns-clause-one c = least_is_one
