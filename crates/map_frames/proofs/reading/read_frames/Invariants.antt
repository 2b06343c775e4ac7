use Rattle.std.proofs.Common.{◌≡◌}
use Rattle.class_model.specs.Frames.{filled}
use Rattle.map_frames.specs.Inner.Settings.{setting_of, standing_of}
use Rattle.map_frames.proofs.FramesRead.{FramesRead}
use Rattle.map_frames.proofs.reading.read_frames.Given as goal

abbrev pub invariant-loop : goal.invariant-loop
invariant-loop l =
    FramesRead (setting_of l.context) l.count (standing_of l.initial.walk) l.counter l.frames (standing_of l.walk)
    × (l.units ≡ filled l.max_locals l.walk.locals)
