use Rattle.class_tree.specs.Headers.{headers_of}
use Rattle.class_tree.specs.Hierarchy.{height}
use Rattle.member_link.specs.Inner.Counting.{Counts}
use Rattle.member_link.proofs.Climbed.{IsClimbed}
use Rattle.member_link.proofs.upwards.first_upwards.Given as goal

abbrev pub invariant-loop-next : goal.invariant-loop-next
invariant-loop-next l = IsClimbed (headers_of l.tree) (Counts (headers_of l.tree) l.counted) l.name l.desc l.fn.start l.next

abbrev pub decreases-loop-next : goal.decreases-loop-next
decreases-loop-next l = height (headers_of l.tree) l.next
