-- A frame of the code as it is written, and what fits.
use Rattle.std.specs.Prelude.{◌≤◌, length, List}
use Rattle.std.specs.List.{AllByRecursion}
use Rattle.class_model.specs.Frames.{entries_of_units}
use Rattle.map_frames.specs.Writing.{FitsType, Listed}
use Rattle.map_frames.specs.declared.frame_writing.ListedFrame.{ListedFrame}
use Rattle.map_frames.specs.declared.writing.NamedIndex.{NamedIndex}

abbrev pub listed_of : ListedFrame → Listed
listed_of frame = record {
  delta = frame.delta;
  locals = entries_of_units frame.locals.now;
  stack = frame.stack.now;
}

-- the lists fit two bytes, and each type can be written
pub record FitsListed (classes : List NamedIndex) (frame : Listed) : Type 0 where
  pub few_locals : length frame.locals ≤ 65535
  pub few_stack : length frame.stack ≤ 65535
  pub locals : AllByRecursion (FitsType classes) frame.locals
  pub stack : AllByRecursion (FitsType classes) frame.stack
