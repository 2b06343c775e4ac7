use Rattle.std.proofs.Common.{◌≡◌, List, ◌++◌, length}
use Rattle.map_frames.specs.Inner.Indices.{IsByName}
use Rattle.map_frames.specs.declared.writing.NamedIndex.{NamedIndex}
use Rattle.map_frames.proofs.class_indices.index_by_name.Given as goal

-- the classes that are in the map
abbrev pub invariant-loop-before : goal.invariant-loop-before
invariant-loop-before l = (done : List NamedIndex) × (l.classes ≡ l.before ++ done) × IsByName done l.by_name

abbrev pub decreases-loop-before : goal.decreases-loop-before
decreases-loop-before l = length l.before
