use Rattle.std.proofs.Common.{◌≡◌, take}
use Rattle.class_tree.specs.Inner.InterfaceNumbers.{with_numbers, AreMarks}
use Rattle.class_tree.proofs.interfaces.append_new.Given as goal

abbrev pub invariant-loop-number : goal.invariant-loop-number
invariant-loop-number l =
    (l.list ≡ with_numbers l.fn.list (take l.number-index l.numbers)) × AreMarks l.marks l.list
