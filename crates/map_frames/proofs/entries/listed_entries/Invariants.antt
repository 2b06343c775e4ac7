use Rattle.std.proofs.Common.{◌≡◌, ◌-◌, ◌++◌, take, drop}
use Rattle.class_model.specs.Frames.{entries_of_units, listed}
use Rattle.map_frames.specs.Inner.Steps.{of_locals}
use Rattle.map_frames.proofs.entries.listed_entries.Given as goal

abbrev pub invariant-loop-at : goal.invariant-loop-at
invariant-loop-at l = l.entries ++ entries_of_units (drop l.at (take l.end l.locals)) ≡ listed (of_locals l.locals)

abbrev pub decreases-loop-at : goal.decreases-loop-at
decreases-loop-at l = l.end - l.at
