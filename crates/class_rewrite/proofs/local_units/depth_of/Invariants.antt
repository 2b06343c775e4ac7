use Rattle.std.proofs.Common.{◌≡◌, min, take}
use Rattle.class_model.specs.Frames.{depth}
use Rattle.class_rewrite.proofs.local_units.depth_of.Given as goal

abbrev pub invariant-loop-entry : goal.invariant-loop-entry
invariant-loop-entry l = l.units ≡ min (depth (take l.entry-index l.entries)) 65535
