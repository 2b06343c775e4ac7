-- Stack map frames as they are written (JVM Specification SE 8, 4.7.4): each in the first kind that fits of
-- same, same with one item, its extended form, chop, same extended, append and full.
use Rattle.std.specs.Prelude.{◌≡◌, ◌⊎◌, ◌+◌, ◌-◌, ◌≤◌, ◌&&◌, not, ℕ, Bool, true, List, [], ◌∷◌, ◌++◌, length, drop, bytes_eq, Option, Some, None, IsSome, IsTrue, if◌then◌else◌}
use Rattle.std.specs.List.{flat_map, AllByRecursion}
use Rattle.class_model.specs.Frames.{Setting, depth, is_wide, is_top, is_new_at, listed}
use Rattle.class_model.specs.Instructions.{is_start}
use Rattle.class_model.specs.PoolChecks.{class_at}
use Rattle.class_model.specs.Spelling.{u2}
use Rattle.class_model.specs.declared.frame_tags.TheConstants.{ITEM_TOP, ITEM_INTEGER, ITEM_FLOAT, ITEM_DOUBLE, ITEM_LONG, ITEM_NULL, ITEM_UNINITIALIZED_THIS, ITEM_OBJECT, ITEM_UNINITIALIZED, SAME_FRAME_LAST, SAME_LOCALS_1_STACK_ITEM_FRAME, SAME_LOCALS_1_STACK_ITEM_FRAME_EXTENDED, SAME_FRAME_EXTENDED, FULL_FRAME}
use Rattle.class_model.specs.declared.frame.Frame.{Frame}
use Rattle.class_model.specs.declared.frame.PlacedFrame.{PlacedFrame}
use Rattle.class_model.specs.declared.frame.VType.{VType}
use Rattle.class_model.specs.declared.frame.VType.TheVariants.{Top, Int, Float, Long, Double, Null, UninitThis, Object, Uninit}
use Rattle.map_frames.specs.declared.writing.NamedIndex.{NamedIndex}

-- ---- verification types

-- the index of a class: that of the first entry of its name
abbrev pub index_of : List NamedIndex → List ℕ → Option ℕ
index_of [] name = None
index_of (entry ∷ classes) name =
    if bytes_eq entry.class name then Some entry.index else index_of classes name

abbrev pub or_zero : Option ℕ → ℕ
or_zero None = 0
or_zero (Some index) = index

abbrev pub type_bytes : List NamedIndex → VType → List ℕ
type_bytes classes Top = ITEM_TOP ∷ []
type_bytes classes Int = ITEM_INTEGER ∷ []
type_bytes classes Float = ITEM_FLOAT ∷ []
type_bytes classes Double = ITEM_DOUBLE ∷ []
type_bytes classes Long = ITEM_LONG ∷ []
type_bytes classes Null = ITEM_NULL ∷ []
type_bytes classes UninitThis = ITEM_UNINITIALIZED_THIS ∷ []
type_bytes classes (Object name) = ITEM_OBJECT ∷ u2 (or_zero (index_of classes name))
type_bytes classes (Uninit at) = ITEM_UNINITIALIZED ∷ u2 at

abbrev pub types_bytes : List NamedIndex → List VType → List ℕ
types_bytes classes types = flat_map (type_bytes classes) types

-- ---- kinds of frames

-- a frame as it is written: its offset delta, its locals as they are listed, and its stack
pub record Listed : Type 0 where
  pub delta : ℕ
  pub locals : List VType
  pub stack : List VType

pub data FrameKind : Type 0 where
  Same : FrameKind
  SameItem : FrameKind
  SameItemExtended : FrameKind
  Chop : FrameKind
  SameExtended : FrameKind
  Append : FrameKind
  Full : FrameKind

-- the kinds in the order in which they are tried
abbrev pub frame_kinds : List FrameKind
frame_kinds = Same ∷ SameItem ∷ SameItemExtended ∷ Chop ∷ SameExtended ∷ Append ∷ Full ∷ []

-- one to three entries
abbrev pub IsFew : List VType → Type 0
IsFew types = (1 ≤ length types) × (length types ≤ 3)

-- the frame has a spelling of this kind behind a frame with these locals
abbrev pub FitsFrameKind : List VType → Listed → FrameKind → Type 0
FitsFrameKind before frame Same =
    (frame.locals ≡ before) × (frame.stack ≡ []) × (frame.delta ≤ SAME_FRAME_LAST)
FitsFrameKind before frame SameItem =
    (frame.locals ≡ before) × (length frame.stack ≡ 1) × (frame.delta ≤ SAME_FRAME_LAST)
FitsFrameKind before frame SameItemExtended = (frame.locals ≡ before) × (length frame.stack ≡ 1)
FitsFrameKind before frame Chop =
    (frame.stack ≡ []) × ((gone : List VType) × (before ≡ frame.locals ++ gone) × IsFew gone)
FitsFrameKind before frame SameExtended = (frame.locals ≡ before) × (frame.stack ≡ [])
FitsFrameKind before frame Append =
    (frame.stack ≡ []) × ((more : List VType) × (frame.locals ≡ before ++ more) × IsFew more)
FitsFrameKind before frame Full = Unit {0}

-- its bytes in this kind
abbrev pub kind_bytes : List NamedIndex → List VType → Listed → FrameKind → List ℕ
kind_bytes classes before frame Same = frame.delta ∷ []
kind_bytes classes before frame SameItem =
    (SAME_LOCALS_1_STACK_ITEM_FRAME + frame.delta) ∷ types_bytes classes frame.stack
kind_bytes classes before frame SameItemExtended =
    SAME_LOCALS_1_STACK_ITEM_FRAME_EXTENDED ∷ (u2 frame.delta ++ types_bytes classes frame.stack)
kind_bytes classes before frame Chop =
    (SAME_FRAME_EXTENDED - (length before - length frame.locals)) ∷ u2 frame.delta
kind_bytes classes before frame SameExtended = SAME_FRAME_EXTENDED ∷ u2 frame.delta
kind_bytes classes before frame Append =
    (SAME_FRAME_EXTENDED + (length frame.locals - length before))
    ∷ (u2 frame.delta ++ types_bytes classes (drop (length before) frame.locals))
kind_bytes classes before frame Full =
    FULL_FRAME
    ∷ (u2 frame.delta
    ++ (u2 (length frame.locals) ++ types_bytes classes frame.locals)
    ++ (u2 (length frame.stack) ++ types_bytes classes frame.stack))

-- the first of some kinds that fits
abbrev pub IsFirst : (FrameKind → Type 0) → List FrameKind → FrameKind → Type 0
IsFirst fits [] kind = ⊥
IsFirst fits (one ∷ others) kind =
    ((kind ≡ one) × fits one) ⊎ ((¬ fits one) × IsFirst fits others kind)

-- the bytes of one frame
pub record IsFrame (classes : List NamedIndex) (before : List VType) (frame : Listed)
    (bytes : List ℕ) : Type 0 where
  pub kind : FrameKind
  pub first : IsFirst (FitsFrameKind before frame) frame_kinds kind
  pub spelled : bytes ≡ kind_bytes classes before frame kind

-- ---- the table

-- A frame's offset is its delta, and for a later one the offset before, one and its delta.
abbrev pub listed_at : ℕ → PlacedFrame → Listed
listed_at from placed = record {
  delta = placed.at - from;
  locals = listed placed.frame;
  stack = placed.frame.stack;
}

-- the bytes of frames, the first of them behind one with these locals, and its delta counted from a place
abbrev pub AreFrames : List NamedIndex → ℕ → List VType → List PlacedFrame → List ℕ → Type 0
AreFrames classes from before [] bytes = bytes ≡ []
AreFrames classes from before (placed ∷ frames) bytes =
    (first : List ℕ) × (rest : List ℕ) × (bytes ≡ first ++ rest)
    × IsFrame classes before (listed_at from placed) first
    × AreFrames classes (placed.at + 1) (listed placed.frame) frames rest

-- the content of a StackMapTable: the number of frames, and the frames behind the entry frame
pub record IsTable (classes : List NamedIndex) (entry : Frame)
    (frames : List PlacedFrame) (bytes : List ℕ) : Type 0 where
  pub inside : List ℕ
  pub counted : bytes ≡ u2 (length frames) ++ inside
  pub are_frames : AreFrames classes 0 (listed entry) frames inside

-- ---- what can be written

-- the class has an index, and the offset of a new fits two bytes
abbrev pub FitsType : List NamedIndex → VType → Type 0
FitsType classes (Object name) = IsSome (index_of classes name)
FitsType classes (Uninit at) = at ≤ 65535
FitsType classes other = Unit {0}

-- a long or double is followed by Top
abbrev pub is_by_unit : List VType → Bool
is_by_unit [] = true
is_by_unit (type ∷ []) = not (is_wide type)
is_by_unit (type ∷ next ∷ types) =
    if is_wide type then is_top next && is_by_unit types else is_by_unit (next ∷ types)

pub record FitsFrame (classes : List NamedIndex) (frame : Frame) : Type 0 where
  pub by_unit : IsTrue (is_by_unit frame.locals)
  pub few_locals : length frame.locals ≤ 65535
  pub few_stack : length frame.stack ≤ 65535
  pub locals : AllByRecursion (FitsType classes) frame.locals
  pub stack : AllByRecursion (FitsType classes) frame.stack

-- the places increase from one on, and fit two bytes
abbrev pub PlacesIncrease : ℕ → List PlacedFrame → Type 0
PlacesIncrease from [] = Unit {0}
PlacesIncrease from (placed ∷ frames) =
    (from ≤ placed.at) × (placed.at ≤ 65535) × PlacesIncrease (placed.at + 1) frames

pub record FitsTable (classes : List NamedIndex) (frames : List PlacedFrame) : Type 0 where
  pub few : length frames ≤ 65535
  pub places : PlacesIncrease 0 frames
  pub each : AllByRecursion (λ placed. FitsFrame classes placed.frame) frames

-- ---- what reads it back

-- in this setting a type can stand in a frame, under the index that it is written with
abbrev pub HasType : Setting → List NamedIndex → VType → Type 0
HasType s classes (Object name) = class_at s.pool (or_zero (index_of classes name)) ≡ Some name
HasType s classes (Uninit at) = IsTrue (is_new_at s.code at)
HasType s classes other = Unit {0}

pub record HasFrame (s : Setting) (classes : List NamedIndex) (placed : PlacedFrame) : Type 0 where
  pub start : IsTrue (is_start s.code placed.at)
  pub all_locals : length placed.frame.locals ≡ s.max_locals
  pub fits_stack : depth placed.frame.stack ≤ s.max_stack
  pub locals : AllByRecursion (HasType s classes) placed.frame.locals
  pub stack : AllByRecursion (HasType s classes) placed.frame.stack

-- each frame can be stated in this setting
abbrev pub HasFrames : Setting → List NamedIndex → List PlacedFrame → Type 0
HasFrames s classes frames = AllByRecursion (HasFrame s classes) frames
