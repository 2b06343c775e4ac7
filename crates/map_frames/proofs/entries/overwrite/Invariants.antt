use Rattle.std.proofs.Common.{◌≡◌, ◌-◌, ◌≤◌, length}
use Rattle.std.proofs.Math.Seq.{paste}
use Rattle.map_frames.proofs.entries.overwrite.Given as goal

abbrev pub invariant-loop-unit : goal.invariant-loop-unit
invariant-loop-unit l = record { written : l.units ≡ paste l.initial.units l.from l.others l.at; within : l.at ≤ length l.others }

abbrev pub decreases-loop-unit : goal.decreases-loop-unit
decreases-loop-unit l = length l.others - l.at
