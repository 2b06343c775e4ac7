use Rattle.class_tree.specs.Headers.{headers_of}
use Rattle.class_tree.specs.Hierarchy.{height}
use Rattle.member_link.proofs.SlotNumbers.{IsClimbing}
use Rattle.member_link.proofs.slots.slot_number.Given as goal

abbrev pub invariant-loop-next : goal.invariant-loop-next
invariant-loop-next l = IsClimbing (headers_of l.tree) l.field l.fn.class l.next l.number

abbrev pub decreases-loop-next : goal.decreases-loop-next
decreases-loop-next l = height (headers_of l.tree) l.next
