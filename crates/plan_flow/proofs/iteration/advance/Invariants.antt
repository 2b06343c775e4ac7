use Rattle.std.proofs.Common.{◌+◌, ◌*◌, length}
use Rattle.plan_flow.specs.Inner.Reaching.{objects_in}
use Rattle.plan_flow.proofs.HeadSteps.{IsAdvancing}
use Rattle.plan_flow.proofs.iteration.advance.Given as goal

abbrev pub invariant-loop-at : goal.invariant-loop-at
invariant-loop-at l = IsAdvancing l.tree l.flat l.initial.states l.states l.work

abbrev pub decreases-loop-at : goal.decreases-loop-at
decreases-loop-at l = objects_in l.states.states * 2 + length l.work
