use Rattle.class_tree.specs.Headers.{headers_of}
use Rattle.class_tree.specs.Hierarchy.{height}
use Rattle.class_tree.proofs.Sought.{IsSought}
use Rattle.class_tree.proofs.subtype.has_superclass.Given as goal

abbrev pub invariant-loop-next : goal.invariant-loop-next
invariant-loop-next l = IsSought (headers_of l.tree) l.fn.class l.above l.next

abbrev pub decreases-loop-next : goal.decreases-loop-next
decreases-loop-next l = height (headers_of l.tree) l.next
