use Rattle.std.proofs.Common.{◌-◌}
use Rattle.plan_flow.proofs.PlanGains.{NoneLostBelow}
use Rattle.plan_flow.proofs.saving.loses_on_edge.Given as goal

abbrev pub decreases-loop-site : goal.decreases-loop-site
decreases-loop-site l = 65536 - l.from

abbrev pub invariant-loop-site : goal.invariant-loop-site
invariant-loop-site l = NoneLostBelow l.plan l.point l.from
