use Rattle.std.proofs.Common.{◌-◌, length, take}
use Rattle.plan_flow.specs.Inner.Blocks.{AreMarked}
use Rattle.plan_flow.specs.PlanTable.{targets_at}
use Rattle.plan_flow.proofs.heads.mark_targets.Given as goal

abbrev pub invariant-loop-to : goal.invariant-loop-to
invariant-loop-to l = AreMarked l.initial.heads.items l.heads.items (take l.number (targets_at l.instr))

abbrev pub decreases-loop-to : goal.decreases-loop-to
decreases-loop-to l = length (targets_at l.instr) - l.number
