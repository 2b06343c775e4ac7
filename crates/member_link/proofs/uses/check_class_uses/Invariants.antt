use Rattle.std.proofs.Common.{length}
use Rattle.class_tree.specs.Headers.{headers_of}
use Rattle.member_link.proofs.MethodUses.{MethodsBelow}
use Rattle.member_link.proofs.uses.check_class_uses.Given as goal

abbrev pub invariant-loop-method : goal.invariant-loop-method
invariant-loop-method l = MethodsBelow (headers_of l.tree) l.class l.header l.resolver (length l.yielded)
