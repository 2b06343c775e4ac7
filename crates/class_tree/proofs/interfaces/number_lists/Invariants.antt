use Rattle.class_tree.proofs.InterfaceLists.{Made}
use Rattle.class_tree.proofs.interfaces.number_lists.Given as goal

abbrev pub invariant-loop-number : goal.invariant-loop-number
invariant-loop-number l = Made l.headers l.order l.number-index l.lists l.marks
