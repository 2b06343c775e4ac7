use Rattle.plan_flow.proofs.HeadSteps.{IsIterating, rounds_left}
use Rattle.plan_flow.proofs.iteration.iterate.Given as goal

abbrev pub invariant-loop-more : goal.invariant-loop-more
invariant-loop-more l = IsIterating l.tree l.flat l.states l.work l.more

abbrev pub decreases-loop-more : goal.decreases-loop-more
decreases-loop-more l = rounds_left l.states l.more
