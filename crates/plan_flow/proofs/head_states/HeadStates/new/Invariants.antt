use Rattle.plan_flow.proofs.PointLists.{AreNone}
use Rattle.plan_flow.proofs.head_states.HeadStates.new.Given as goal

abbrev pub invariant-loop-at : goal.invariant-loop-at
invariant-loop-at l = AreNone l.states.items l._at l.count
