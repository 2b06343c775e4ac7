use Rattle.std.proofs.Common.{length}
use Rattle.plan_flow.proofs.Rounds.{Rounds}
use Rattle.plan_flow.proofs.settling.settled.Given as goal

abbrev pub decreases-loop-alloc : goal.decreases-loop-alloc
decreases-loop-alloc l = length l.left.objects

abbrev pub invariant-loop-alloc : goal.invariant-loop-alloc
invariant-loop-alloc l = Rounds l.tree l.flat l.at l.state l.left l.sites
