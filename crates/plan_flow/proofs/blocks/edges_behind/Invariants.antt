use Rattle.plan_flow.proofs.Walking.{IsGoing}
use Rattle.plan_flow.proofs.blocks.edges_behind.Given as goal

abbrev pub invariant-loop-next : goal.invariant-loop-next
invariant-loop-next l = IsGoing l.tree l.flat l.targets l.states l.at l.state l.next l.edges
