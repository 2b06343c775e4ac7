use Rattle.std.proofs.Common.{List}
use Rattle.class_model.specs.declared.frame.PlacedFrame.{PlacedFrame}
use Rattle.map_frames.specs.Inner.Settings.{setting_of, standing_of}
use Rattle.map_frames.proofs.FramesRead.{FramesRead}
use Rattle.map_frames.proofs.reading.check_frames.Given as goal

abbrev pub invariant-loop : goal.invariant-loop
invariant-loop l = (frames : List PlacedFrame) × FramesRead (setting_of l.context) l.count (standing_of l.initial.walk) l.counter frames (standing_of l.walk)
