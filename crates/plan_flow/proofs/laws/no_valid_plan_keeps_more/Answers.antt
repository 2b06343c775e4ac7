use Rattle.plan_flow.specs.Plans.{state_left}
use Rattle.plan_flow.proofs.PlanLaws.{below_at, present_below}
use Rattle.plan_flow.proofs.laws.no_valid_plan_keeps_more.Goals as goal

pub returns-clause-before : goal.returns-clause-before
returns-clause-before c = λ s least plan at site point also is valid reached also_reached present.
    present_below point.state also.state site (below_at least plan at point also (is.least plan valid) reached also_reached).before present

pub returns-clause-after : goal.returns-clause-after
returns-clause-after c = λ s least plan at site point also is valid reached also_reached present.
    present_below (state_left point) (state_left also) site (below_at least plan at point also (is.least plan valid) reached also_reached).after present
