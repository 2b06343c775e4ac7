use Rattle.std.proofs.Common.{◌≡◌, ◌≤◌, length, drop}
use Rattle.class_tree.specs.Headers.{headers_of}
use Rattle.machine_heap.specs.Inner.Climbs.{blanks_up}
use Rattle.machine_heap.proofs.blanks.blank_fields.Given as goal

abbrev pub invariant-loop-left : goal.invariant-loop-left
invariant-loop-left l = (l.left ≤ length l.places.items) × (l.values ≡ blanks_up (headers_of l.tree) (drop l.left l.places.items))

abbrev pub decreases-loop-left : goal.decreases-loop-left
decreases-loop-left l = l.left
