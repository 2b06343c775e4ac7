use Rattle.std.proofs.Common.{false, length, replicate}
use Rattle.class_tree.specs.Headers.{headers_of}
use Rattle.class_rewrite.proofs.marked_classes.classes_of_chains.Given as goal
use Rattle.class_rewrite.specs.Inner.Marking.{Marks, StandsInChains}

abbrev pub invariant-loop-class : goal.invariant-loop-class
invariant-loop-class l = Marks (StandsInChains (headers_of l.tree) l.classes l.class) (replicate (length l.tree.folder) false) l.marks
