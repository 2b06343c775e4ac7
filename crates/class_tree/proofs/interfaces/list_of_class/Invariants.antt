use Rattle.std.proofs.Common.{◌≡◌, [], take}
use Rattle.class_tree.specs.Inner.InterfaceNumbers.{with_numbers, with_lists, AreMarks}
use Rattle.class_tree.proofs.interfaces.list_of_class.Given as goal

abbrev pub invariant-loop-number : goal.invariant-loop-number
invariant-loop-number l =
    (l.list ≡ with_numbers [] (with_lists l.lists (take l.number-index l.interfaces))) × AreMarks l.marks l.list
