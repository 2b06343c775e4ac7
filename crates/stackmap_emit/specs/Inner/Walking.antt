-- The frames of items, one after the other: what flows into each, whether a block's frame is stated there, and what flows on.
use Rattle.std.specs.Prelude.{◌≡◌, ◌++◌, ℕ, suc, Bool, false, max, min, get_or, List, [], ◌∷◌, Option, Some, None, if◌then◌else◌}
use Rattle.std.specs.Option.{option_copied}
use Rattle.class_model.specs.Frames.{depth}
use Rattle.class_model.specs.Pool.{Constants}
use Rattle.class_model.specs.declared.frame.Frame.{Frame}
use Rattle.class_model.specs.declared.frame.PlacedFrame.{PlacedFrame}
use Rattle.class_model.specs.declared.instr.Instr.{Instr}
use Rattle.class_tree.specs.Headers.{Name}
use Rattle.code_layout.specs.Layout.{start_in}
use Rattle.code_layout.specs.declared.emitted.EmitItem.{EmitItem}
use Rattle.member_link.specs.Bodies.{falls_through}
use Rattle.member_link.specs.RowScope.{RowScope}
use Rattle.member_link.specs.Rows.Row.{row_frame}
use Rattle.member_link.specs.Rows.Table.{row_of}
use Rattle.plan_flow.specs.Written.FramedCode.{depth_in, frame_had, stated_by}
use Rattle.row_frames.specs.Behind.{NamesTexts}
use Rattle.stackmap_emit.specs.Inner.BlockTables.{frame_by}
use Rattle.stackmap_emit.specs.Inner.PlacedUnits.{number_by}
use Rattle.stackmap_emit.specs.PlacedFrames.{frame_at, placed_frames}
use Rattle.stackmap_emit.specs.declared.blocks.Blocks.{Blocks}
use Rattle.stackmap_emit.specs.declared.walk.Walk.{Walk}
use Rattle.stackmap_emit.specs.declared.walk.WrittenFrames.{WrittenFrames}

-- What frames of items depend on.
pub record Reads : Type 0 where
  pub pool : Constants
  pub own : Name
  pub blocks : Blocks
  pub led : List Bool
  pub offsets : List ℕ

abbrev pub reads : Constants → Name → Blocks → List Bool → List ℕ → Reads
reads pool own blocks led offsets =
    record { pool = pool; own = own; blocks = blocks; led = led; offsets = offsets }

abbrev pub reads_of : Walk → Reads
reads_of walk =
    reads walk.pool.now walk.own.now walk.blocks.now walk.led.now walk.offsets.now

-- The frame of the block that begins with an item, if one does, and whether a jump or a handler leads to the item.
pub record Stating : Type 0 where
  pub block : ℕ → Option Frame
  pub led : ℕ → Bool

abbrev pub stating_of : Reads → Stating
stating_of walk = record {
  block = λ number.
      frame_by walk.blocks.maker (number_by walk.blocks.by_point.items walk.blocks.end)
      (option_copied (get_or walk.blocks.by_item.items number None));
  led = λ number. get_or walk.led number false;
}

-- ---- one item

-- the frame that is stated there, by what flows in, and the one that it has
abbrev pub stated_at : Stating → ℕ → Option Frame → Option Frame
stated_at w number flow = stated_by (w.led number) flow (w.block number)

abbrev pub had_at : Stating → ℕ → Option Frame → Option Frame
had_at w number flow = frame_had (stated_at w number flow) flow

-- what it leaves of a frame
abbrev pub behind_instr : RowScope → ℕ → Instr → Frame → Option Frame
behind_instr s number instr frame = row_frame frame (row_of s frame number instr)

abbrev pub goes_on : RowScope → ℕ → Instr → Option Frame → Option Frame
goes_on s number instr None = None
goes_on s number instr (Some frame) =
    if falls_through instr then behind_instr s number instr frame else None

-- the depth of the stack before and behind it
abbrev pub depth_at : RowScope → ℕ → Instr → Option Frame → ℕ
depth_at s number instr None = 0
depth_at s number instr (Some frame) =
    max (depth frame.stack) (depth_in (behind_instr s number instr frame))

-- the names that it pushes are texts
abbrev pub NamesAt : RowScope → ℕ → Instr → Option Frame → Type 0
NamesAt s number instr None = Unit {0}
NamesAt s number instr (Some frame) = NamesTexts s frame number instr

-- ---- items

abbrev pub next_flow : RowScope → Stating → ℕ → Option Frame → EmitItem → Option Frame
next_flow s w number flow item = goes_on s number item.instr (had_at w number flow)

-- what is stated before each, from a number on
abbrev pub stated_along :
    RowScope → Stating → ℕ → Option Frame → List EmitItem → List (Option Frame)
stated_along s w number flow [] = []
stated_along s w number flow (item ∷ items) =
    stated_at w number flow
    ∷ stated_along s w (suc number) (next_flow s w number flow item) items

abbrev pub depth_along : RowScope → Stating → ℕ → Option Frame → List EmitItem → ℕ
depth_along s w number flow [] = 0
depth_along s w number flow (item ∷ items) =
    max (depth_at s number item.instr (had_at w number flow))
    (depth_along s w (suc number) (next_flow s w number flow item) items)

abbrev pub NamesAlong : RowScope → Stating → ℕ → Option Frame → List EmitItem → Type 0
NamesAlong s w number flow [] = Unit {0}
NamesAlong s w number flow (item ∷ items) =
    NamesAt s number item.instr (had_at w number flow)
    × NamesAlong s w (suc number) (next_flow s w number flow item) items

-- ---- what the code does

-- the frame, if one is stated, at the offset of an item
abbrev pub placed_if : (ℕ → ℕ) → ℕ → Option Frame → List PlacedFrame
placed_if place number None = []
placed_if place number (Some frame) = record { at = place number; frame = frame_at place frame } ∷ []

-- One item was gone over: what is stated there stands behind the others, and this flows on.
pub record Steps (walk : Reads) (s : RowScope) (number : ℕ) (instr : Instr) (flow : Option Frame)
    (old : WrittenFrames) (next : Option Frame) (new : WrittenFrames)
    : Type 0 where
  pub placed : new.placed
      ≡ old.placed
      ++ placed_if (start_in walk.offsets) number (stated_at (stating_of walk) number flow)
  pub goes : NamesAt s number instr (had_at (stating_of walk) number flow)
      → next ≡ goes_on s number instr (had_at (stating_of walk) number flow)
  pub deepest : NamesAt s number instr (had_at (stating_of walk) number flow)
      → new.max_stack
      ≡ max old.max_stack (min (depth_at s number instr (had_at (stating_of walk) number flow)) 65535)

-- So were those before the item of a number, into which this flows.
pub record WalkedTo (walk : Reads) (entry : Frame) (items : List EmitItem) (s : RowScope)
    (number : ℕ) (flow : Option Frame) (rest : List EmitItem) (made : WrittenFrames)
    : Type 0 where
  pub names : NamesAlong s (stating_of walk) number flow rest
  pub placed : made.placed
      ++ placed_frames (start_in walk.offsets) number
      (stated_along s (stating_of walk) number flow rest)
      ≡ placed_frames (start_in walk.offsets) 0
      (stated_along s (stating_of walk) 0 (Some entry) items)
  pub deepest : max made.max_stack (min (depth_along s (stating_of walk) number flow rest) 65535)
      ≡ min (depth_along s (stating_of walk) 0 (Some entry) items) 65535

-- A scope with the constants and the class, in which the names that items push are texts.
pub record IsScope (walk : Reads) (entry : Frame) (items : List EmitItem) (s : RowScope) : Type 0 where
  pub pool : s.pool ≡ walk.pool
  pub own : s.own.name ≡ walk.own
  pub names : NamesAlong s (stating_of walk) 0 (Some entry) items

abbrev pub AreWalkedTo :
    Reads → Frame → List EmitItem → ℕ → Option Frame → List EmitItem → WrittenFrames → Type 0
AreWalkedTo walk entry items number flow rest made =
    (s : RowScope)
    → IsScope walk entry items s
    → WalkedTo walk entry items s number flow rest made

-- So were all.
pub record IsWalked (walk : Reads) (entry : Frame) (items : List EmitItem) (s : RowScope)
    (made : WrittenFrames)
    : Type 0 where
  pub placed : made.placed
      ≡ placed_frames (start_in walk.offsets) 0
      (stated_along s (stating_of walk) 0 (Some entry) items)
  pub deepest : made.max_stack
      ≡ min (depth_along s (stating_of walk) 0 (Some entry) items) 65535

abbrev pub IsWalk : Reads → Frame → List EmitItem → WrittenFrames → Type 0
IsWalk walk entry items made =
    (s : RowScope) → IsScope walk entry items s → IsWalked walk entry items s made
