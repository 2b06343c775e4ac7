use Rattle.plan_flow.proofs.Opening.{TargetsLeft}
use Rattle.plan_flow.proofs.edges.push_targets.Given as goal

abbrev pub invariant-loop-to : goal.invariant-loop-to
invariant-loop-to l = TargetsLeft l.state l.initial.edges.items l.edges.items l.guard l.targets l.to-index
