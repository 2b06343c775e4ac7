use Rattle.std.proofs.Common.{drop}
use Rattle.class_tree.proofs.NewNumbers.{MarkOnly}
use Rattle.class_tree.proofs.interfaces.unmark.Given as goal

abbrev pub invariant-loop-number : goal.invariant-loop-number
invariant-loop-number l = MarkOnly l.marks (drop l.number-index l.list)
