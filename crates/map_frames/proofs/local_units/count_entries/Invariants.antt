use Rattle.std.proofs.Common.{◌≡◌, ◌+◌, ◌≤◌, length}
use Rattle.class_model.specs.Frames.{entries_of_units}
use Rattle.map_frames.proofs.local_units.count_entries.Given as goal

-- The second fact bounds the count.
abbrev pub invariant-loop-others : goal.invariant-loop-others
invariant-loop-others l =
    (l.count + length (entries_of_units l.rest) ≡ length (entries_of_units l.units)) × (l.count + length l.rest ≤ length l.units)

abbrev pub decreases-loop-others : goal.decreases-loop-others
decreases-loop-others l = length l.rest
