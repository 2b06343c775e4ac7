use Rattle.std.proofs.Common.{◌-◌, length}
use Rattle.plan_flow.specs.Inner.Sharing.{points_of}
use Rattle.plan_flow.proofs.TargetLists.{AreAlike}
use Rattle.plan_flow.proofs.handler_targets.lead_alike.Given as goal

abbrev pub decreases-loop-to : goal.decreases-loop-to
decreases-loop-to l = length (points_of l.handlers) - l.number

abbrev pub invariant-loop-to : goal.invariant-loop-to
invariant-loop-to l = AreAlike (points_of l.handlers) (points_of l.others) l.number
