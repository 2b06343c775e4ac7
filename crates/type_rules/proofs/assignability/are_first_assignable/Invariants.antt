use Rattle.std.proofs.Common.{take}
use Rattle.class_tree.specs.Headers.{headers_of}
use Rattle.member_link.specs.Rows.FrameAssignability.{AreAssignable}
use Rattle.type_rules.proofs.assignability.are_first_assignable.Given as goal

abbrev pub invariant-loop-at : goal.invariant-loop-at
invariant-loop-at l = AreAssignable (headers_of l.fn.tree) (take l.at l.from) (take l.at l.to)
