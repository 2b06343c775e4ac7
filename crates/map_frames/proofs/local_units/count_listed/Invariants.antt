use Rattle.std.proofs.Common.{◌≡◌, ◌≤◌, length, take}
use Rattle.map_frames.proofs.FrameUnits.{kept}
use Rattle.map_frames.proofs.local_units.count_listed.Given as goal

abbrev pub invariant-loop-end : goal.invariant-loop-end
invariant-loop-end l = record { same : kept (take l.end l.locals) ≡ kept l.locals; few : l.end ≤ length l.locals }

abbrev pub decreases-loop-end : goal.decreases-loop-end
decreases-loop-end l = l.end
