use Rattle.materialise.proofs.StackLaws.{Saves}
use Rattle.materialise.proofs.stack.saved_entries.Given as goal

abbrev pub invariant-loop-left : goal.invariant-loop-left
invariant-loop-left l = Saves l.entries l.saved.items l.left

abbrev pub decreases-loop-left : goal.decreases-loop-left
decreases-loop-left l = l.left
