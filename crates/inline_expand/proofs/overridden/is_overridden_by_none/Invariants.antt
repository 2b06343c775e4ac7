use Rattle.class_tree.specs.Headers.{headers_of}
use Rattle.inline_expand.proofs.OverridingMethods.{NoneAmong}
use Rattle.inline_expand.proofs.overridden.is_overridden_by_none.Given as goal
use Rattle.member_link.specs.DeclaredMembers.{Declared}
use Rattle.member_link.specs.Found.{IsMethodFound}

abbrev pub invariant-loop-index : goal.invariant-loop-index
invariant-loop-index l =
    (method : Declared) → IsMethodFound (headers_of l.methods) l.high method → NoneAmong (headers_of l.methods) method l.lows l.index
