use Rattle.std.proofs.Common.{drop}
use Rattle.class_tree.specs.Headers.{headers_of}
use Rattle.member_link.specs.DeclaredMembers.{declared_by}
use Rattle.member_link.proofs.WaysUp.{AreInterfacesLeft, HasNone}
use Rattle.member_link.proofs.overriding.any_superinterface.Given as goal

abbrev pub invariant-loop-place : goal.invariant-loop-place
invariant-loop-place g l =
    AreInterfacesLeft (headers_of l.tree) l.low.header.now.name (HasNone (headers_of l.tree) (declared_by l.low.header.now.name l.low.member.now) (goal.F-post g l.test)) (drop l.place-index l.place-items)
