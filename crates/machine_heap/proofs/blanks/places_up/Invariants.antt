use Rattle.std.proofs.Common.{Some, IsSome, IfSome}
use Rattle.class_tree.specs.Headers.{headers_of}
use Rattle.class_tree.specs.Hierarchy.{height}
use Rattle.class_tree.specs.Order.{header_at}
use Rattle.machine_heap.specs.Inner.Climbs.{Climbs}
use Rattle.machine_heap.proofs.blanks.places_up.Given as goal

abbrev pub invariant-loop-next : goal.invariant-loop-next
invariant-loop-next l =
    Climbs (headers_of l.tree) (Some l.fn.class) l.places.items l.next
    × IfSome l.next (λ place. IsSome (header_at (headers_of l.tree) place))

abbrev pub decreases-loop-next : goal.decreases-loop-next
decreases-loop-next l = height (headers_of l.tree) l.next
