use Rattle.virtual_state.proofs.ClosedSets.{HasFirst}
use Rattle.virtual_state.proofs.closing.in_order.Given as goal

abbrev pub invariant-loop-at : goal.invariant-loop-at
invariant-loop-at l = HasFirst l.set l.marked l.at
