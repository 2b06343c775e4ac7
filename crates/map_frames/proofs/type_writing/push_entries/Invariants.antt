use Rattle.std.proofs.Common.{◌≡◌, ◌++◌, length}
use Rattle.std.specs.List.{AllByRecursion}
use Rattle.class_model.specs.Frames.{entries_of_units}
use Rattle.map_frames.specs.Writing.{FitsType, types_bytes}
use Rattle.map_frames.proofs.type_writing.push_entries.Given as goal

-- What is written and what is left are the whole.
abbrev pub invariant-loop-entry : goal.invariant-loop-entry
invariant-loop-entry l =
    (l.out.items ++ types_bytes l.classes (entries_of_units l.rest) ≡ l.fn.out.items ++ types_bytes l.classes (entries_of_units l.units))
    × AllByRecursion (FitsType l.classes) (entries_of_units l.rest)

abbrev pub decreases-loop-entry : goal.decreases-loop-entry
decreases-loop-entry l = length l.rest
