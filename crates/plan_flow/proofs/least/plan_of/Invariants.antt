use Rattle.plan_flow.proofs.LeastStarts.{IsPlanning}
use Rattle.plan_flow.proofs.least.plan_of.Given as goal

abbrev pub invariant-loop-at : goal.invariant-loop-at
invariant-loop-at l = IsPlanning l.tree l.flat l.heads l.states l.points.items l.at
