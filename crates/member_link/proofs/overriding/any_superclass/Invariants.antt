use Rattle.class_tree.specs.Headers.{headers_of}
use Rattle.class_tree.specs.Hierarchy.{height}
use Rattle.member_link.specs.DeclaredMembers.{declared_by}
use Rattle.member_link.proofs.WaysUp.{AreClassesLeft, HasNone}
use Rattle.member_link.proofs.overriding.any_superclass.Given as goal

abbrev pub invariant-loop-next : goal.invariant-loop-next
invariant-loop-next g l =
    AreClassesLeft (headers_of l.tree) l.low.header.now.name (HasNone (headers_of l.tree) (declared_by l.low.header.now.name l.low.member.now) (goal.F-post g l.test)) l.next

abbrev pub decreases-loop-next : goal.decreases-loop-next
decreases-loop-next g l = height (headers_of l.tree) l.next
