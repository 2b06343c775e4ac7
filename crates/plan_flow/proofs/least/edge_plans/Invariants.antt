use Rattle.std.proofs.Common.{◌-◌, length}
use Rattle.plan_flow.specs.Inner.Reaching.{reached_in}
use Rattle.plan_flow.proofs.OwnPlans.{OwnLeft}
use Rattle.plan_flow.proofs.least.edge_plans.Given as goal

abbrev pub invariant-loop-edge : goal.invariant-loop-edge
invariant-loop-edge l = OwnLeft (reached_in l.states) l.edges l.number l.plans.items

abbrev pub decreases-loop-edge : goal.decreases-loop-edge
decreases-loop-edge l = length l.edges - l.number
