use Rattle.std.proofs.Common.{◌-◌, length}
use Rattle.plan_flow.specs.Inner.Reaching.{reached_in}
use Rattle.plan_flow.proofs.OwnPlans.{SetsLeft}
use Rattle.plan_flow.proofs.planned_edges.made_sets.Given as goal

abbrev pub invariant-loop-edge : goal.invariant-loop-edge
invariant-loop-edge l = SetsLeft (reached_in l.states) l.edges l.number l.made

abbrev pub decreases-loop-edge : goal.decreases-loop-edge
decreases-loop-edge l = length l.edges - l.number
