use Rattle.plan_flow.specs.Inner.Sharing.{AreTargetsUpTo}
use Rattle.plan_flow.proofs.handler_targets.HandlerTargets.of.Given as goal

abbrev pub invariant-loop-at : goal.invariant-loop-at
invariant-loop-at l = AreTargetsUpTo l.flat l.points.items l.at
