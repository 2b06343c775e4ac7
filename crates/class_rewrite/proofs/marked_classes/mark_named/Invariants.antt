use Rattle.std.proofs.Common.{take}
use Rattle.class_tree.specs.Headers.{headers_of}
use Rattle.class_rewrite.proofs.marked_classes.mark_named.Given as goal
use Rattle.class_rewrite.specs.Inner.Marking.{IsNamed, Marks}

abbrev pub invariant-loop-name : goal.invariant-loop-name
invariant-loop-name l = Marks (IsNamed (headers_of l.tree) (take l.name-index l.names)) l.fn.marks l.marks
