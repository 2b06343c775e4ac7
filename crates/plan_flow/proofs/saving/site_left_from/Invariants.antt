use Rattle.std.proofs.Common.{◌-◌}
use Rattle.plan_flow.specs.Plans.{state_left}
use Rattle.plan_flow.proofs.PlanGains.{AbsentUpTo}
use Rattle.plan_flow.proofs.saving.site_left_from.Given as goal

abbrev pub decreases-loop-site : goal.decreases-loop-site
decreases-loop-site l = 65536 - l.from

abbrev pub invariant-loop-site : goal.invariant-loop-site
invariant-loop-site l = AbsentUpTo (state_left l.point).objects l.first l.from
