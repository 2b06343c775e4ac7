use Rattle.std.proofs.Common.{◌-◌, length}
use Rattle.plan_flow.proofs.EdgeKinds.{FoundFrom}
use Rattle.plan_flow.proofs.plan.first_by.Given as goal

abbrev pub invariant-loop-edge : goal.invariant-loop-edge
invariant-loop-edge l = FoundFrom l.by l.edges l.number

abbrev pub decreases-loop-edge : goal.decreases-loop-edge
decreases-loop-edge l = length l.edges - l.number
