use Rattle.std.proofs.Common.{◌≤◌, length}
use Rattle.pool_edit.specs.Inner.Kept.{StartsFrom}
use Rattle.pool_edit.proofs.added.kept_below.Given as goal

abbrev pub invariant-loop-kept : goal.invariant-loop-kept
invariant-loop-kept l = (l.kept ≤ length l.added.entries) × StartsFrom l.index l.kept l.added.entries

abbrev pub decreases-loop-kept : goal.decreases-loop-kept
decreases-loop-kept l = l.kept
