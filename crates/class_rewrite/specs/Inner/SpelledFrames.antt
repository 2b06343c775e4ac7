-- What the frames of written code name: classes and arrays by texts that a Class constant may have (JVM Specification SE 8, 4.4.1 and 4.7.4). It is
-- this project's profile.
use Rattle.std.specs.Prelude.{◌≡◌, ℕ, List, slice_get, Some}
use Rattle.class_model.specs.declared.frame.Frame.{Frame}
use Rattle.expanded_runs.specs.NamedFrames.{FrameHas, IsSpelledName, TypesHave}
use Rattle.making_code.specs.IndexedItems.{IndexedItem}
use Rattle.member_link.specs.Rows.Table.{row_of}
use Rattle.plan_flow.specs.Written.FramedCode.{items_scope}
use Rattle.written_types.specs.Writing.{Writing, items_in}

-- each frame of the items, and what each item pushes
pub record AreSpelledFrames (w : Writing) (frames : List Frame) : Type 0 where
  pub each : (number : ℕ) (frame : Frame)
      → slice_get frames number ≡ Some frame
      → FrameHas IsSpelledName frame
  pub given : (number : ℕ) (item : IndexedItem) (frame : Frame)
      → slice_get (items_in w) number ≡ Some item
      → slice_get frames number ≡ Some frame
      → TypesHave IsSpelledName
      (row_of (items_scope w.host w.pool 0 (items_in w)) frame number item.instr).gives
