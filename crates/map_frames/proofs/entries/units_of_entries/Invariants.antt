use Rattle.std.proofs.Common.{◌≡◌, take}
use Rattle.class_model.specs.Frames.{units_of_entries}
use Rattle.map_frames.proofs.entries.units_of_entries.Given as goal

abbrev pub invariant-loop-entry : goal.invariant-loop-entry
invariant-loop-entry l = l.units ≡ units_of_entries (take l.entry-index l.entries)
