use Rattle.std.proofs.Common.{◌-◌, length}
use Rattle.plan_flow.proofs.EdgeKinds.{Counting}
use Rattle.plan_flow.proofs.plan.are_counted.Given as goal

abbrev pub invariant-loop-edge : goal.invariant-loop-edge
invariant-loop-edge l = Counting l.edges l.first l.at

abbrev pub decreases-loop-edge : goal.decreases-loop-edge
decreases-loop-edge l = length l.edges - l.at
