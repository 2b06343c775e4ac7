-- Stack map frames (JVM Specification SE 8, 4.7.4): the content of a StackMapTable, frame by frame. A frame's
-- place is that of its first byte.
use Rattle.std.specs.Prelude.{◌==◌, ◌&&◌, ◌||◌, ◌+◌, ◌-◌, nat_lt, ℕ, zero, suc, Bool, true, false, List, [], ◌∷◌, ◌++◌, length, take, replicate, reverse, Option, Some, None, Result, Ok, Err, if◌then◌else◌}
use Rattle.std.specs.List.{flat_map, list_any}
use Rattle.class_model.specs.Checks.{Fault, fault, ◌>>=◌}
use Rattle.class_model.specs.Cutting.{Rest, Cut, behind}
use Rattle.class_model.specs.Instructions.{u1_in, u2_in, is_start}
use Rattle.class_model.specs.Pool.{Constants}
use Rattle.class_model.specs.PoolChecks.{class_at}
use Rattle.class_model.specs.Tables.{Row, one_row, row, given_in}
use Rattle.class_model.specs.declared.fault.FileRule.TheVariants as rules
use Rattle.class_model.specs.declared.frame_tags.TheConstants.{ITEM_TOP, ITEM_INTEGER, ITEM_FLOAT, ITEM_DOUBLE, ITEM_LONG, ITEM_NULL, ITEM_UNINITIALIZED_THIS, ITEM_OBJECT, ITEM_UNINITIALIZED, SAME_FRAME, SAME_FRAME_LAST, SAME_LOCALS_1_STACK_ITEM_FRAME, SAME_LOCALS_1_STACK_ITEM_FRAME_LAST, RESERVED, RESERVED_LAST, SAME_LOCALS_1_STACK_ITEM_FRAME_EXTENDED, CHOP_FRAME, CHOP_FRAME_LAST, SAME_FRAME_EXTENDED, APPEND_FRAME, APPEND_FRAME_LAST, FULL_FRAME}
use Rattle.class_model.specs.declared.frame.VType.{VType}
use Rattle.class_model.specs.declared.frame.VType.TheVariants.{Top, Int, Float, Long, Double, Null, UninitThis, Object, Uninit}
use Rattle.class_model.specs.declared.frame.Frame.{Frame}
use Rattle.class_model.specs.declared.frame.PlacedFrame.{PlacedFrame}
use Rattle.class_model.specs.declared.instr.Instr.{Instr}
use Rattle.class_model.specs.declared.instr.Instr.TheVariants.{New}
use Rattle.class_model.specs.declared.instr.Placed.{Placed}

-- What a table is read against: the pool, the greatest units of locals and of stack, and the code.
pub record Setting : Type 0 where
  pub pool : Constants
  pub max_locals : ℕ
  pub max_stack : ℕ
  pub code : List Placed

-- ---- units and entries

-- a type that takes two units (2.6.1)
abbrev pub is_wide : VType → Bool
is_wide Long = true
is_wide Double = true
is_wide other = false

-- the local units of an entry: a long or double is followed by Top
abbrev pub units : VType → List VType
units Long = Long ∷ Top ∷ []
units Double = Double ∷ Top ∷ []
units other = other ∷ []

-- those of entries one after the other
abbrev pub units_of_entries : List VType → List VType
units_of_entries entries = flat_map units entries

-- the units that stack entries take
abbrev pub depth : List VType → ℕ
depth entries = length (units_of_entries entries)

-- local units up to a number, Top behind those that are listed
abbrev pub filled : ℕ → List VType → List VType
filled max_locals entries =
    units_of_entries entries ++ replicate (max_locals - length (units_of_entries entries)) Top

-- ---- verification types (4.7.4)

-- the instruction is a new
abbrev pub is_new : Instr → Bool
is_new (New class) = true
is_new other = false

-- a new stands at an offset
abbrev pub is_new_at : List Placed → ℕ → Bool
is_new_at code at = list_any (λ p. (p.at == at) && is_new p.instr) code

-- an object of the class of this name, if its index names one
abbrev pub object_of : ℕ → Rest → Option (List ℕ) → Cut VType
object_of frame rest (Some name) = Ok (Object name, rest)
object_of frame rest None = Err (fault frame rules.FrameType)

-- bytes that are missing: Attribute at 0, the table's own place
abbrev pub missing : Fault
missing = fault 0 rules.Attribute

-- a number of two bytes inside the table
abbrev pub table_u2_at : Rest → Cut ℕ
table_u2_at rest =
    if nat_lt (length rest.bytes) 2 then Err missing else Ok (u2_in rest.bytes 0, behind 2 rest)

-- What stands behind the tag of a verification type: nothing, the index of a class, or the offset of a new.
pub data TypeOperand : Type 0 where
  NoOperand : VType → TypeOperand
  ClassIndex : TypeOperand
  NewOffset : TypeOperand

-- the verification types by their tags
abbrev pub type_rows : List (Row TypeOperand)
type_rows =
    one_row ITEM_TOP (NoOperand Top)
    ∷ one_row ITEM_INTEGER (NoOperand Int)
    ∷ one_row ITEM_FLOAT (NoOperand Float)
    ∷ one_row ITEM_DOUBLE (NoOperand Double)
    ∷ one_row ITEM_LONG (NoOperand Long)
    ∷ one_row ITEM_NULL (NoOperand Null)
    ∷ one_row ITEM_UNINITIALIZED_THIS (NoOperand UninitThis)
    ∷ one_row ITEM_OBJECT ClassIndex
    ∷ one_row ITEM_UNINITIALIZED NewOffset
    ∷ []

-- an object of the class that an index names
abbrev pub object_at : Setting → ℕ → Rest → Cut VType
object_at s frame rest =
    table_u2_at rest >>= λ index. object_of frame index.1 (class_at s.pool index.0)

-- an object that the new at an offset makes
abbrev pub uninit_at : Setting → ℕ → Rest → Cut VType
uninit_at s frame rest =
    table_u2_at rest >>= λ at. if is_new_at s.code at.0 then Ok (Uninit at.0, at.1)
    else Err (fault frame rules.FrameType)

-- the type of a tag, from behind the tag, in a frame at a place
abbrev pub type_behind : Setting → ℕ → Option TypeOperand → Rest → Cut VType
type_behind s frame None rest = Err (fault frame rules.FrameType)
type_behind s frame (Some (NoOperand type)) rest = Ok (type, rest)
type_behind s frame (Some ClassIndex) rest = object_at s frame rest
type_behind s frame (Some NewOffset) rest = uninit_at s frame rest

-- a verification type by its tag, in a frame at a place
abbrev pub verification_type_at : Setting → ℕ → Rest → Cut VType
verification_type_at s frame rest =
    if nat_lt (length rest.bytes) 1 then Err missing
    else type_behind s frame (given_in type_rows (u1_in rest.bytes 0)) (behind 1 rest)

-- so many verification types, one after the other
unfoldable pub verification_types_at : Setting → ℕ → ℕ → Rest → Cut (List VType)
verification_types_at s frame zero rest = Ok ([], rest)
verification_types_at s frame (suc count) rest = do
  first ← verification_type_at s frame rest
  others ← verification_types_at s frame count first.1
  Ok (first.0 ∷ others.0, others.1)

-- ---- frames

-- A frame as its entries: the locals as they are listed, and the stack.
pub record Entries : Type 0 where
  pub locals : List VType
  pub stack : List VType

-- an offset delta and a frame
pub record Stated : Type 0 where
  pub delta : ℕ
  pub entries : Entries

-- a frame of these entries behind an offset delta
abbrev pub stated_frame : ℕ → List VType → List VType → Stated
stated_frame delta locals stack = record {
  delta = delta;
  entries = record { locals = locals; stack = stack };
}

-- What stands behind the first byte of a frame.
pub data FrameForm : Type 0 where
  -- nothing; the byte says the offset delta
  SameFrame : ℕ → FrameForm
  -- the one entry of the stack; the byte says the delta
  ItemFrame : ℕ → FrameForm
  ReservedFrame : FrameForm
  -- a delta, and the one entry of the stack
  ItemFrameExtended : FrameForm
  -- a delta; so many last locals are gone
  ChopFrame : ℕ → FrameForm
  -- a delta
  SameFrameExtended : FrameForm
  -- a delta, and so many locals that are added
  AppendFrame : ℕ → FrameForm
  -- a delta, the locals and the stack
  FullFrame : FrameForm

-- the frames by their first bytes
abbrev pub frame_rows : List (Row FrameForm)
frame_rows =
    row SAME_FRAME SAME_FRAME_LAST SameFrame
    ∷ row SAME_LOCALS_1_STACK_ITEM_FRAME SAME_LOCALS_1_STACK_ITEM_FRAME_LAST
    (λ kind. ItemFrame (kind - SAME_LOCALS_1_STACK_ITEM_FRAME))
    ∷ row RESERVED RESERVED_LAST (λ kind. ReservedFrame)
    ∷ one_row SAME_LOCALS_1_STACK_ITEM_FRAME_EXTENDED ItemFrameExtended
    ∷ row CHOP_FRAME CHOP_FRAME_LAST (λ kind. ChopFrame (SAME_FRAME_EXTENDED - kind))
    ∷ one_row SAME_FRAME_EXTENDED SameFrameExtended
    ∷ row APPEND_FRAME APPEND_FRAME_LAST (λ kind. AppendFrame (kind - SAME_FRAME_EXTENDED))
    ∷ one_row FULL_FRAME FullFrame
    ∷ []

-- the locals without the last so many entries
abbrev pub chopped : ℕ → List VType → List VType
chopped count locals = take (length locals - count) locals

-- a stack of one entry
abbrev pub item_at : Setting → ℕ → Rest → Cut (List VType)
item_at s frame rest = do
  item ← verification_type_at s frame rest
  Ok (item.0 ∷ [], item.1)

-- the frame with the same locals and one entry on the stack
abbrev pub item_frame_at : Setting → ℕ → List VType → ℕ → Rest → Cut Stated
item_frame_at s delta locals frame rest = do
  stack ← item_at s frame rest
  Ok (stated_frame delta locals stack.0, stack.1)

-- so many last locals are gone
abbrev pub chop_at : ℕ → List VType → ℕ → Rest → Cut Stated
chop_at count locals frame rest =
    if nat_lt (length locals) count then Err (fault frame rules.FrameKind)
    else (table_u2_at rest
    >>= λ delta. Ok (stated_frame delta.0 (chopped count locals) [], delta.1))

-- so many locals are added
abbrev pub append_at : Setting → ℕ → List VType → ℕ → Rest → Cut Stated
append_at s count locals frame rest = do
  delta ← table_u2_at rest
  more ← verification_types_at s frame count delta.1
  Ok (stated_frame delta.0 (locals ++ more.0) [], more.1)

-- entries behind their number
abbrev pub counted_types_at : Setting → ℕ → Rest → Cut (List VType)
counted_types_at s frame rest = do
  count ← table_u2_at rest
  verification_types_at s frame count.0 count.1

-- all locals and the stack
abbrev pub full_at : Setting → ℕ → Rest → Cut Stated
full_at s frame rest = do
  delta ← table_u2_at rest
  locals ← counted_types_at s frame delta.1
  stack ← counted_types_at s frame locals.1
  Ok (stated_frame delta.0 locals.0 stack.0, stack.1)

-- the frame of a form, from behind its first byte, at a place and behind a frame with these locals
abbrev pub frame_behind : Setting → List VType → ℕ → Option FrameForm → Rest → Cut Stated
frame_behind s locals frame None rest = Err (fault frame rules.FrameKind)
frame_behind s locals frame (Some (SameFrame delta)) rest = Ok (stated_frame delta locals [], rest)
frame_behind s locals frame (Some (ItemFrame delta)) rest = item_frame_at s delta locals frame rest
frame_behind s locals frame (Some ReservedFrame) rest = Err (fault frame rules.FrameKind)
frame_behind s locals frame (Some ItemFrameExtended) rest =
    table_u2_at rest >>= λ delta. item_frame_at s delta.0 locals frame delta.1
frame_behind s locals frame (Some (ChopFrame count)) rest = chop_at count locals frame rest
frame_behind s locals frame (Some SameFrameExtended) rest =
    table_u2_at rest >>= λ delta. Ok (stated_frame delta.0 locals [], delta.1)
frame_behind s locals frame (Some (AppendFrame count)) rest = append_at s count locals frame rest
frame_behind s locals frame (Some FullFrame) rest = full_at s frame rest

-- the frame at the front, behind a frame with these locals
abbrev pub frame_at : Setting → List VType → Rest → Cut Stated
frame_at s locals rest =
    if nat_lt (length rest.bytes) 1 then Err missing
    else frame_behind s locals rest.at (given_in frame_rows (u1_in rest.bytes 0)) (behind 1 rest)

-- its units fit, and its offset is the start of an instruction
abbrev pub fits_at : Setting → ℕ → ℕ → Stated → Result PlacedFrame Fault
fits_at s frame at f =
    if nat_lt s.max_locals (depth f.entries.locals)
    || nat_lt s.max_stack (depth f.entries.stack) then Err (fault frame rules.FrameSize)
    else (if is_start s.code at then Ok (record {
      at = at;
      frame = record {
        locals = filled s.max_locals f.entries.locals;
        stack = f.entries.stack;
      };
    })
    else Err (fault frame rules.FramePlace))

-- so many frames, the first of them behind one with these locals; its offset is its delta and then what is given
unfoldable pub frames_at : Setting → ℕ → ℕ → List VType → Rest → Cut (List PlacedFrame)
frames_at s zero from locals rest = Ok ([], rest)
frames_at s (suc count) from locals rest = do
  first ← frame_at s locals rest
  placed ← fits_at s rest.at (from + first.0.delta) first.0
  others ← frames_at s count (from + first.0.delta + 1) first.0.entries.locals first.1
  Ok (placed ∷ others.0, others.1)

-- the entries that list local units (4.7.4): without the second units of longs and doubles
unfoldable pub entries_of_units : List VType → List VType
entries_of_units [] = []
entries_of_units (t ∷ []) = t ∷ []
entries_of_units (t ∷ u ∷ types) =
    if is_wide t then t ∷ entries_of_units types else t ∷ entries_of_units (u ∷ types)

abbrev pub is_top : VType → Bool
is_top Top = true
is_top other = false

-- the types from the first on that is not Top
abbrev pub without_tops : List VType → List VType
without_tops [] = []
without_tops (t ∷ types) = if is_top t then without_tops types else t ∷ types

-- the entries that list a frame's locals, up to the last that is not Top
abbrev pub listed : Frame → List VType
listed entry = entries_of_units (reverse (without_tops (reverse entry.locals)))

-- all frames of a table, which fill its content; the first stands behind the frame that the code begins with
abbrev pub stack_map_table_at : Setting → Frame → List ℕ → Result (List PlacedFrame) Fault
stack_map_table_at s entry content = do
  count ← table_u2_at (record { at = 0; bytes = content })
  frames ← frames_at s count.0 0 (listed entry) count.1
  if length frames.1.bytes == 0 then Ok frames.0 else Err missing
