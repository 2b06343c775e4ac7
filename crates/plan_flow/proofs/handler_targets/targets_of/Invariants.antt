use Rattle.std.proofs.Common.{◌-◌, length}
use Rattle.plan_flow.specs.Inner.Sharing.{points_of}
use Rattle.plan_flow.proofs.TargetLists.{AreSeen}
use Rattle.plan_flow.proofs.handler_targets.targets_of.Given as goal

abbrev pub decreases-loop-to : goal.decreases-loop-to
decreases-loop-to l = length (points_of l.handlers) - l.number

abbrev pub invariant-loop-to : goal.invariant-loop-to
invariant-loop-to l = AreSeen (points_of l.handlers) l.number l.seen.keys
