use Rattle.class_tree.specs.Headers.{headers_of}
use Rattle.class_tree.specs.Hierarchy.{height}
use Rattle.inline_expand.proofs.JudgedChains.{IsClimbing}
use Rattle.inline_expand.proofs.candidates.Candidates.climb.Given as goal

abbrev pub invariant-loop-next : goal.invariant-loop-next
invariant-loop-next l = IsClimbing (headers_of l.self) l.class l.names.items l.next

abbrev pub decreases-loop-next : goal.decreases-loop-next
decreases-loop-next l = height (headers_of l.self) l.next
