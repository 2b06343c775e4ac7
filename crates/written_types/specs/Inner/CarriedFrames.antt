-- What flows into each item of written code and which frame it has, and what it means that the items of a block carry each frame with which the block
-- can begin to the block behind it.
use Rattle.std.specs.Prelude.{◌≡◌, ◌≢◌, ◌⊎◌, ◌+◌, ◌≤◌, ◌<◌, ℕ, zero, suc, true, List, [], ◌∷◌, ◌++◌, length, slice_get, Option, Some, None}
use Rattle.std.specs.List.{AllByRecursion}
use Rattle.class_model.specs.Frames.{depth}
use Rattle.class_model.specs.declared.frame.Frame.{Frame}
use Rattle.class_model.specs.declared.frame.VType.{VType}
use Rattle.class_model.specs.declared.frame.VType.TheVariants.{Top, Uninit, UninitThis}
use Rattle.class_model.specs.declared.instr.Instr.{Instr}
use Rattle.expanded_runs.specs.UsableNames.{IsUsableCode}
use Rattle.making_code.specs.Items.{WItem}
use Rattle.member_link.specs.Bodies.{BodyPoint, catch_frame, flows_on, frame_behind, item_targets, point_row}
use Rattle.member_link.specs.Rows.Assigning.{IsFrameAssignableIn}
use Rattle.member_link.specs.Rows.Row.{stack_behind}
use Rattle.member_link.specs.Rows.Table.{row_of}
use Rattle.plan_flow.specs.Written.Finish.{Finished, is_empty}
use Rattle.plan_flow.specs.Written.FramedCode.{frame_by_item, frame_had, frame_of_item, is_led_to, stated_by}
use Rattle.plan_flow.specs.Written.WrittenCode.{block_items, written_items}
use Rattle.plan_flow.specs.Written.WrittenConstants.{indexed_item}
use Rattle.plan_flow.specs.Written.WrittenFrames.{written_frame}
use Rattle.written_types.specs.HeldRows.{RowFits}
use Rattle.written_types.specs.Writing.{Writing, entry_in, items_in, point_in, points_in, scope_in}

-- ---- frames by the numbers of items

-- the frame of a block
abbrev pub frame_in : Writing → Finished → Frame
frame_in w one = frame_by_item w.form w.blocks (written_frame w.s.flat one.block)

abbrev pub stated_in : Writing → ℕ → Option Frame → Option Frame
stated_in w number flow =
    stated_by (is_led_to (items_in w) number) flow (frame_of_item w.s.flat w.form w.blocks number)

abbrev pub had_in : Writing → ℕ → Option Frame → Option Frame
had_in w number flow = frame_had (stated_in w number flow) flow

abbrev pub flows_from : Option BodyPoint → Option Frame → Option Frame
flows_from None frame = None
flows_from (Some point) None = None
flows_from (Some point) (Some frame) = flows_on point frame

-- What flows into an item, if it can be reached from the one before it.
abbrev pub comes : Writing → ℕ → Option Frame
comes w zero = Some (entry_in w)
comes w (suc number) = flows_from (slice_get (points_in w) number) (had_in w number (comes w number))

-- ---- frames that a block may begin with

abbrev pub AgreeIn : List VType → List VType → Type 0
AgreeIn [] [] = Unit {0}
AgreeIn (type ∷ types) (written ∷ others) = ((written ≡ Top) ⊎ (type ≡ written)) × AgreeIn types others
AgreeIn types others = ⊥

-- A frame is as long as a written one, and has its types wherever that says something; and it has no uninitialised this.
pub record Agrees (frame written : Frame) : Type 0 where
  pub locals : AgreeIn frame.locals written.locals
  pub stack : AgreeIn frame.stack written.stack
  pub no_this : AllByRecursion (λ type. type ≢ UninitThis) frame.locals

-- No object that an item of a block makes is on the stack before it.
abbrev pub IsFresh : Writing → ℕ → Finished → Frame → Type 0
IsFresh w number one frame =
    (at : ℕ)
    → number ≤ at
    → at < number + length (block_items w.form one)
    → AllByRecursion (λ type. type ≢ Uninit at) frame.stack

-- ---- where frames go

-- a block is one of those that are written, and its first item has a number
pub record IsPlaced (w : Writing) (number : ℕ) (one : Finished) : Type 0 where
  pub front : List Finished
  pub behind : List Finished
  pub is : w.blocks ≡ front ++ (one ∷ behind)
  pub starts : number ≡ length (written_items w.form front)

-- a frame may stand for that of a block, and keeps no uninitialised this from it
pub record FitsBefore (w : Writing) (frame : Frame) (one : Finished) : Type 0 where
  pub assignable : IsFrameAssignableIn (scope_in w).headers (scope_in w).major frame (frame_in w one)
  pub no_this : AllByRecursion (λ type. type ≢ UninitThis) frame.locals

-- a frame leads to the block at the item of a number
pub record LeadsIn (w : Writing) (frame : Option Frame) (to : ℕ) : Type 0 where
  pub goes : Frame
  pub is_frame : frame ≡ Some goes
  pub block : Finished
  pub placed : IsPlaced w to block
  pub fits : FitsBefore w goes block

-- an item's instruction, with numbers of items for targets
abbrev pub instr_in : Writing → ℕ → WItem → Instr
instr_in w number one =
    (indexed_item w.s w.constructor w.pool w.form w.blocks number one).instr

-- The row of an item fits behind a frame, and its jumps and handlers lead to blocks whose frames fit. Where the host may use what the flat code
-- names, so may the item.
pub record ItemHolds (w : Writing) (number : ℕ) (one : WItem) (frame : Frame) : Type 0 where
  pub row : RowFits (scope_in w) frame (point_row (point_in w number one) frame)
  pub targets :
      AllByRecursion (LeadsIn w (frame_behind (point_in w number one) frame))
      (item_targets (point_in w number one).item)
  pub handlers :
      AllByRecursion (λ catch. LeadsIn w (Some (catch_frame frame catch.class)) catch.to)
      (point_in w number one).catches
  pub access : IsUsableCode w.s.classes w.host w.s.flat
      → (row_of (scope_in w) frame number (instr_in w number one)).access

-- Items from a number on hold one after the other, from a frame to the one behind them; the last may not go on.
pub data Carries (w : Writing) : ℕ → List WItem → Frame → Option Frame → Type 0 where
  carries_none : (number : ℕ) (frame : Frame) → Carries w number [] frame (Some frame)
  carries_on : (number : ℕ) (one : WItem) (others : List WItem) (frame next : Frame) (last : Option Frame)
      → ItemHolds w number one frame
      → flows_on (point_in w number one) frame ≡ Some next
      → Carries w (suc number) others next last
      → Carries w number (one ∷ others) frame last
  carries_away : (number : ℕ) (one : WItem) (frame : Frame)
      → ItemHolds w number one frame
      → flows_on (point_in w number one) frame ≡ None
      → Carries w number (one ∷ []) frame None

-- what comes out of a block fits the block behind it, or one behind that over blocks without items
abbrev pub GoesBehind : Writing → Option Frame → List Finished → Type 0
GoesBehind w None behind = Unit {0}
GoesBehind w (Some frame) [] = ⊥
GoesBehind w (Some frame) (next ∷ others) =
    FitsBefore w frame next
    ⊎ ((is_empty (block_items w.form next) ≡ true) × GoesBehind w (Some frame) others)

-- the items of a block carry a frame to what is behind it
pub record BlockCarries (w : Writing) (number : ℕ) (one : Finished) (behind : List Finished) (frame : Frame)
    : Type 0 where
  pub last : Option Frame
  pub carries : Carries w number (block_items w.form one) frame last
  pub goes : GoesBehind w last behind

-- ---- the depth of the stack

-- Behind each item the stack of the frame that it has is within the greatest depth.
abbrev pub IsDeepEnough : Writing → Type 0
IsDeepEnough w =
    (number : ℕ) (front behind : List WItem) (one : WItem) (frame : Frame)
    → written_items w.form w.blocks ≡ front ++ (one ∷ behind)
    → number ≡ length front
    → had_in w number (comes w number) ≡ Some frame
    → depth (stack_behind frame (point_row (point_in w number one) frame)) ≤ w.max_stack
