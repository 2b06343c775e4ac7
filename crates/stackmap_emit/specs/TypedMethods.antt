-- The method of a written class that has written items laid out, with its stated frames (JVM Specification SE 8, 4.7.3, 4.7.4 and 4.10.1.6): what is
-- asked of it so that what types the items types it. It is this project's profile.
use Rattle.std.specs.Prelude.{◌≡◌, ◌++◌, ◌<◌, ℕ, List, length, map, slice_get, slice_index_or, Option, Some}
use Rattle.std.specs.List.{AllByRecursion}
use Rattle.class_model.specs.Pool.{Constants}
use Rattle.class_model.specs.declared.frame.Frame.{Frame}
use Rattle.class_model.specs.declared.frame.VType.{VType}
use Rattle.class_model.specs.declared.frame.VType.TheVariants.{Uninit}
use Rattle.class_model.specs.declared.instr.Instr.TheVariants.{New}
use Rattle.class_tree.specs.Headers.{IsClassFile}
use Rattle.code_layout.specs.Emitting.{HasInstr, IsEmitted}
use Rattle.code_layout.specs.Layout.{start_in}
use Rattle.code_layout.specs.PlainItems.{plain_items}
use Rattle.code_layout.specs.declared.emitted.EmitItem.{EmitItem}
use Rattle.code_layout.specs.declared.laid.Laid.{Laid}
use Rattle.flow_code.specs.FlatCode.{FlatCode}
use Rattle.flow_code.specs.WrittenUnits.{written_units}
use Rattle.making_code.specs.Constants.{grow}
use Rattle.making_code.specs.IndexedItems.{IndexedItem}
use Rattle.member_link.specs.Bodies.{Body}
use Rattle.member_link.specs.RowScope.{RowScope}
use Rattle.member_link.specs.Rows.Table.{row_of}
use Rattle.member_link.specs.Scope.{Scope}
use Rattle.plan_flow.specs.Written.FramedCode.{body_of_items, greatest_of, items_scope}
use Rattle.plan_flow.specs.Written.WrittenCode.{Form}
use Rattle.stackmap_emit.specs.FrameConstants.{table_needs}
use Rattle.stackmap_emit.specs.FramesAttribute.{IsFramesAttribute}
use Rattle.stackmap_emit.specs.PlacedFrames.{IsLaidIn, frame_at, placed_frames, stated_from}
use Rattle.type_rules.specs.Grown.{AreGrownHeaders, IsGrownClass, IsSameMethod}

-- ---- what is written

-- Items that are laid out in a form, in place of the code of a host: by a flat code, and by the constants of a pool. Frames are before the items,
-- and some of them are stated.
pub record LaidCode : Type 0 where
  pub host : Scope
  pub flat : FlatCode
  pub form : Form
  pub pool : Constants
  pub items : List EmitItem
  pub laid : Laid
  pub state : ℕ → Option Frame
  pub frames : List Frame

abbrev pub indexed : LaidCode → List IndexedItem
indexed w = plain_items w.items

-- the items as a body, whose stack has at most so many units
abbrev pub laid_body : LaidCode → ℕ → Body
laid_body w max_stack = body_of_items w.host w.flat w.pool max_stack (indexed w) w.state

abbrev pub stated_by_items : LaidCode → List (Option Frame)
stated_by_items w = stated_from w.state 0 w.items

-- ---- the method that has them

-- The method is the host's but for its attributes, in a class that has grown from the host's, among classes that have.
pub record IsGrownMethod (host s : Scope) : Type 0 where
  pub headers : AreGrownHeaders host.headers s.headers
  pub is_class_file : IsClassFile host.class
  pub class : IsGrownClass host.class s.class
  pub number : ℕ
  pub there : slice_get host.class.methods number ≡ Some host.method
  pub method : IsSameMethod host.method s.method

-- Its Code has the bytes of the items, their exception table, room for their locals and their stack, and the StackMapTable of the frames that they
-- state. Its class has the constants of the items and of the frames, and maybe more.
pub record HasLaidCode (w : LaidCode) (s : Scope) : Type 0 where
  pub emitted : IsEmitted w.items
  pub laid : IsLaidIn w.form w.items w.laid
  pub code : s.part.code ≡ w.laid.code
  pub handlers : s.part.handlers ≡ w.laid.handlers
  pub max_locals : s.part.max_locals ≡ written_units w.flat
  pub max_stack : s.part.max_stack ≡ greatest_of (laid_body w 0).points w.frames
  pub pool : Constants
  pub grows : grow 64535 w.pool (table_needs (stated_by_items w)) ≡ Some pool
  pub more : Constants
  pub has : s.class.pool ≡ pool ++ more
  pub attrs : IsFramesAttribute pool (laid_body w 0).entry
      (placed_frames (start_in w.laid.starts) 0 (stated_by_items w)) s.part.attrs

-- ---- what is asked beside the types

-- what a row reads of an item in the class that has the method
abbrev pub method_items : LaidCode → Scope → RowScope
method_items w s = items_scope s s.class.pool s.part.max_stack (indexed w)

-- each item may use the protected member that it names, behind its frame (4.10.1.8)
abbrev pub PassAccess : LaidCode → Scope → Type 0
PassAccess w s =
    (number : ℕ) (item : EmitItem) (frame : Frame)
    → slice_get w.items number ≡ Some item
    → slice_get w.frames number ≡ Some frame
    → (row_of (method_items w s) frame number item.instr).access

-- an uninitialised object is one that the new of an item makes
abbrev pub HasNew : List EmitItem → VType → Type 0
HasNew items (Uninit number) = (index : ℕ) × HasInstr items number (New index)
HasNew items type = Unit {0}

-- a frame has a type for each local unit, and each uninitialised object in it has its new
pub record IsWhole (units : ℕ) (items : List EmitItem) (frame : Frame) : Type 0 where
  pub all_locals : length frame.locals ≡ units
  pub locals : AllByRecursion (HasNew items) frame.locals
  pub stack : AllByRecursion (HasNew items) frame.stack

-- so has each that is stated
abbrev pub AreWhole : LaidCode → Type 0
AreWhole w =
    (number : ℕ) (frame : Frame)
    → number < length w.items
    → w.state number ≡ Some frame
    → IsWhole (written_units w.flat) w.items frame

-- ---- offsets

-- the offset of the item of a number, or the end of the code
abbrev pub offset_in : Laid → ℕ → ℕ
offset_in laid number = slice_index_or laid.starts number (length laid.code)

-- the frames before the instructions
abbrev pub frames_by_offset : LaidCode → List Frame
frames_by_offset w = map (frame_at (offset_in w.laid)) w.frames
