use Rattle.std.proofs.Common.{◌≡◌, List, ◌++◌, length}
use Rattle.class_model.specs.Frames.{entries_of_units}
use Rattle.class_model.specs.declared.frame.VType.{VType}
use Rattle.map_frames.proofs.local_units.behind_common.Given as goal

-- the entries with which both begin
abbrev pub invariant-loop-less_gone : goal.invariant-loop-less_gone
invariant-loop-less_gone l =
    (common : List VType) × (entries_of_units l.before ≡ common ++ entries_of_units l.gone)
    × (entries_of_units l.locals ≡ common ++ entries_of_units l.more)

abbrev pub decreases-loop-less_gone : goal.decreases-loop-less_gone
decreases-loop-less_gone l = length l.gone
