use Rattle.std.proofs.Common.{◌-◌, length}
use Rattle.plan_flow.proofs.DoneEdges.{EdgesDone}
use Rattle.plan_flow.proofs.effects.edges_over.Given as goal

abbrev pub decreases-loop-edge : goal.decreases-loop-edge
decreases-loop-edge l = length l.taken - l.number

abbrev pub invariant-loop-edge : goal.invariant-loop-edge
invariant-loop-edge l = EdgesDone l.tree l.flat l.at l.types l.row l.state l.taken l.edges l.number
