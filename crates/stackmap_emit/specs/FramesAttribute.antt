-- The StackMapTable attribute of written code (JVM Specification SE 8, 4.7.4), in a pool that has its constants. It is this project's profile.
use Rattle.std.specs.Prelude.{◌≡◌, ◌≢◌, ℕ, List, [], ◌∷◌, map, slice_get, Option, Some, None, Ok}
use Rattle.std.specs.List.{AllByRecursion, flat_map}
use Rattle.class_model.specs.Code.{stack_map_table}
use Rattle.class_model.specs.Frames.{Setting, stack_map_table_at}
use Rattle.class_model.specs.Pool.{Constants}
use Rattle.class_model.specs.declared.class_file.InnerAttr.{InnerAttr}
use Rattle.class_model.specs.declared.frame.Frame.{Frame}
use Rattle.class_model.specs.declared.frame.PlacedFrame.{PlacedFrame}
use Rattle.making_code.specs.Constants.{Need, index_in, needs_class, text_index}
use Rattle.map_frames.specs.Writing.{FitsTable, HasFrames, IsTable}
use Rattle.map_frames.specs.declared.writing.NamedIndex.{NamedIndex}
use Rattle.stackmap_emit.specs.FrameConstants.{frame_needs}

-- the class of a need has an index among these
abbrev pub IsNamed : List NamedIndex → Need → Type 0
IsNamed names (needs_class name) =
    (number : ℕ) × (named : NamedIndex) × (slice_get names number ≡ Some named)
    × (named.class ≡ name)
IsNamed names need = Unit {0}

-- the index of each class that frames name
abbrev pub NamesClasses : Constants → List NamedIndex → List Need → Type 0
NamesClasses pool names needs =
    AllByRecursion (λ named. named.index ≡ index_in pool (needs_class named.class)) names
    × AllByRecursion (IsNamed names) needs

-- the classes of placed frames, in order
abbrev pub placed_needs : List PlacedFrame → List Need
placed_needs frames = flat_map (λ placed. frame_needs (Some placed.frame)) frames

-- Wherever the frames can be stated, the bytes are read as them.
abbrev pub AreRead : List NamedIndex → Frame → List PlacedFrame → List ℕ → Type 0
AreRead names entry frames bytes =
    (s : Setting) → HasFrames s names frames → stack_map_table_at s entry bytes ≡ Ok frames

-- A StackMapTable, where frames are stated: the one that is written of them, which states them.
pub data IsFramesAttribute (pool : Constants) (entry : Frame) (frames : List PlacedFrame)
    : List InnerAttr → Type 0 where
  no_attribute : frames ≡ [] → IsFramesAttribute pool entry frames []
  one_attribute : {names : List NamedIndex} {bytes : List ℕ}
      → frames ≢ []
      → NamesClasses pool names (placed_needs frames)
      → IsTable names entry frames bytes
      → AreRead names entry frames bytes
      → IsFramesAttribute pool entry frames
      (record { name = text_index pool stack_map_table; bytes = bytes } ∷ [])

-- ---- how it is made

-- whatever the indices of their classes are, the frames can be written
abbrev pub CanBeWritten : List PlacedFrame → Type 0
CanBeWritten frames =
    (names : List NamedIndex)
    → AllByRecursion (IsNamed names) (placed_needs frames)
    → FitsTable names frames

-- each of them is stated
abbrev pub all_stated : List PlacedFrame → List (Option Frame)
all_stated frames = map (λ placed. Some placed.frame) frames

-- an attribute that may be there
abbrev pub attributes : Option InnerAttr → List InnerAttr
attributes None = []
attributes (Some attribute) = attribute ∷ []
