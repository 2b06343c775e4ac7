use Rattle.std.proofs.Common.{◌≡◌, ◌≤◌, drop, length}
use Rattle.code_drafts.proofs.finishing.ends_of.Given as goal
use Rattle.code_drafts.specs.Inner.Ends.{draft_ends}

abbrev pub invariant-loop-at : goal.invariant-loop-at
invariant-loop-at l =
    (drop l.at l.ends.items ≡ draft_ends l.flat (drop l.at l.blocks))
    × (length l.ends.items ≡ length l.blocks)
    × (l.at ≤ length l.blocks)

abbrev pub decreases-loop-at : goal.decreases-loop-at
decreases-loop-at l = l.at
