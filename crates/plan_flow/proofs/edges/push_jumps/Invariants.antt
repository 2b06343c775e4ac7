use Rattle.std.proofs.Common.{◌-◌, length}
use Rattle.plan_flow.specs.PlanTable.{targets_at}
use Rattle.plan_flow.proofs.Opening.{JumpsLeft}
use Rattle.plan_flow.proofs.edges.push_jumps.Given as goal

abbrev pub decreases-loop-to : goal.decreases-loop-to
decreases-loop-to l = length (targets_at l.instr) - l.number

abbrev pub invariant-loop-to : goal.invariant-loop-to
invariant-loop-to l = JumpsLeft l.state l.initial.edges.items l.edges.items l.guard (targets_at l.instr) l.number
