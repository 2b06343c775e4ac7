-- Written code as a body that frames type, and where frames are stated in it (JVM Specification SE 8, 4.7.4 and 4.10.1). It is this project's
-- profile.
--
-- A frame stands at each target of a jump, at each handler, behind each instruction from which control does not fall through, and at the start
-- of each other block where what flows in differs from what the block has. Blocks that write nothing share the place of the block behind them,
-- and it has that one's frame. Elsewhere an instruction has what flows in.
use Rattle.std.specs.Prelude.{◌≡◌, ◌==◌, ◌||◌, ℕ, zero, suc, ◌+◌, max, Bool, true, false, List, [], ◌∷◌, ◌++◌, length, map, Option, Some, None, option_and_then, option_map, if◌then◌else◌}
use Rattle.std.specs.List.{flat_map, list_any, slice_get}
use Rattle.class_model.specs.Frames.{depth}
use Rattle.class_model.specs.Instructions.{targets}
use Rattle.class_model.specs.Methods.{entry_of, home_of}
use Rattle.class_model.specs.Pool.{Constants}
use Rattle.class_model.specs.PoolChecks.{class_at}
use Rattle.class_model.specs.declared.frame.Frame.{Frame}
use Rattle.class_model.specs.declared.frame.VType.{VType}
use Rattle.class_model.specs.declared.frame.VType.TheVariants.{Uninit}
use Rattle.class_model.specs.declared.instr.Instr.{Instr}
use Rattle.class_model.specs.declared.instr.Instr.TheVariants.{New}
use Rattle.class_tree.specs.Headers.{Name}
use Rattle.class_tree.specs.Names.{throwable}
use Rattle.flow_code.specs.FlatCode.{FlatCode}
use Rattle.flow_code.specs.WrittenUnits.{written_units}
use Rattle.member_link.specs.Bodies.{Body, BodyCatch, BodyCaught, BodyPoint, flows_on, frame_behind, item_instr}
use Rattle.member_link.specs.Machine.Replaced.{map_numbered}
use Rattle.member_link.specs.RowScope.{RowScope}
use Rattle.member_link.specs.Scope.{Scope, row_scope}
use Rattle.plan_flow.specs.Written.Blocks.{BlockOf, before_point, handler_pad, jump_pad, of_point, on_next_edge}
use Rattle.plan_flow.specs.Written.Finish.{Finished, is_empty}
use Rattle.plan_flow.specs.Written.WrittenCode.{Form, block_items, start_of}
use Rattle.making_code.specs.IndexedItems.{IndexedItem}
use Rattle.making_code.specs.StateFrames.{differ}
use Rattle.plan_flow.specs.Written.WrittenFrames.{written_frame}

-- ---- the frames of blocks, by the numbers of items

-- an uninitialised object is named by the first item of the point of its new
abbrev pub is_of_point : ℕ → BlockOf → Bool
is_of_point to (of_point at) = at == to
is_of_point to other = false

abbrev pub type_by_item : Form → List Finished → VType → VType
type_by_item form blocks (Uninit at) = Uninit (start_of form blocks (is_of_point at))
type_by_item form blocks type = type

abbrev pub frame_by_item : Form → List Finished → Frame → Frame
frame_by_item form blocks frame = record {
  locals = map (type_by_item form blocks) frame.locals;
  stack = map (type_by_item form blocks) frame.stack;
}

-- the block that writes the item of a number first, if one does: the blocks from a number of an item on
abbrev pub block_from : Form → ℕ → ℕ → List Finished → Option Finished
block_from form wanted number [] = None
block_from form wanted number (one ∷ others) =
    if is_empty (block_items form one) then block_from form wanted number others
    else if number == wanted then Some one
    else block_from form wanted (number + length (block_items form one)) others

-- the frame of the block that begins with the item of a number
abbrev pub frame_of_item : FlatCode → Form → List Finished → ℕ → Option Frame
frame_of_item flat form blocks number =
    option_map (λ one. frame_by_item form blocks (written_frame flat one.block))
    (block_from form number 0 blocks)

-- ---- the body

abbrev pub caught_name : Constants → ℕ → Option Name
caught_name pool index = if index == 0 then Some throwable else class_at pool index

abbrev pub body_catch : Constants → (ℕ × ℕ) → BodyCatch
body_catch pool catch = record { to = catch.0; class = caught_name pool catch.1 }

abbrev pub new_class_in : Constants → List IndexedItem → ℕ → Option Name
new_class_in pool items number =
    option_and_then (λ one. of_instr one.instr) (slice_get items number) where
      of_instr : Instr → Option Name
      of_instr (New index) = class_at pool index
      of_instr other = None

-- what the rows of items read in the host: the pool that has their constants, and the greatest depth of the stack
abbrev pub items_scope : Scope → Constants → ℕ → List IndexedItem → RowScope
items_scope host pool max_stack items = record (row_scope host) {
  pool = pool;
  max_stack = max_stack;
  new_class = new_class_in pool items;
}

abbrev pub item_body : Constants → RowScope → ℕ → IndexedItem → BodyPoint
item_body pool scope number one = record {
  place = number;
  next = number + 1;
  scope = scope;
  item = item_instr one.instr;
  asks_access = false;
  catches = map (body_catch pool) one.catches;
}

abbrev pub item_table : Constants → ℕ → List IndexedItem → List BodyCaught
item_table pool number [] = []
item_table pool number (one ∷ others) =
    map (λ catch. record { start = number; class = caught_name pool catch.1 }) one.catches
    ++ item_table pool (suc number) others

-- the body of written items, in which these frames are stated
abbrev pub body_of_items :
    Scope → FlatCode → Constants → ℕ → List IndexedItem → (ℕ → Option Frame) → Body
body_of_items host flat pool max_stack items stated = record {
  scope = items_scope host pool max_stack items;
  entry = entry_of (home_of host.class) host.method
      (record host.part { max_locals = written_units flat });
  points = map_numbered (item_body pool (items_scope host pool max_stack items)) zero items;
  end = length items;
  stated = stated;
  table = item_table pool zero items;
}

-- ---- where frames are stated

-- a jump or a handler of some item leads to the item of a number
abbrev pub leads_to : ℕ → IndexedItem → Bool
leads_to number one =
    list_any (λ to. to == number) (targets one.instr)
    || list_any (λ (catch : ℕ × ℕ). catch.0 == number) one.catches

abbrev pub is_led_to : List IndexedItem → ℕ → Bool
is_led_to items number = list_any (leads_to number) items

-- what flows into the item of a number, if it can be reached from the one before it
abbrev pub flow_into : Body → List Frame → ℕ → Option Frame
flow_into body frames zero = Some body.entry
flow_into body frames (suc number) =
    of_parts (slice_get body.points number) (slice_get frames number) where
      of_parts : Option BodyPoint → Option Frame → Option Frame
      of_parts (Some point) (Some frame) = flows_on point frame
      of_parts point frame = None

abbrev pub stands : Bool → Option Frame → Frame → Bool
stands true flow frame = true
stands false None frame = true
stands false (Some flow) frame = differ flow frame

abbrev pub stated_by : Bool → Option Frame → Option Frame → Option Frame
stated_by led flow None = None
stated_by led flow (Some frame) = if stands led flow frame then Some frame else None

-- the frame that an item has
abbrev pub frame_had : Option Frame → Option Frame → Option Frame
frame_had (Some stated) flow = Some stated
frame_had None flow = flow

-- These frames, one for each item, are those of written code, and the body states what has to be stated.
pub record IsFramed (flat : FlatCode) (form : Form) (blocks : List Finished)
    (items : List IndexedItem) (body : Body) (frames : List Frame)
    : Type 0 where
  pub stated : (number : ℕ)
      → body.stated number
      ≡ stated_by (is_led_to items number) (flow_into body frames number)
      (frame_of_item flat form blocks number)
  pub many : length frames ≡ length items
  pub had : (number : ℕ) (frame : Frame)
      → slice_get frames number ≡ Some frame
      → frame_had (body.stated number) (flow_into body frames number) ≡ Some frame

-- ---- the greatest depth

-- the units of a stack, if there is a frame
abbrev pub depth_in : Option Frame → ℕ
depth_in None = 0
depth_in (Some frame) = depth frame.stack

-- before and behind each item
abbrev pub greatest_of : List BodyPoint → List Frame → ℕ
greatest_of [] frames = 0
greatest_of (point ∷ points) [] = 0
greatest_of (point ∷ points) (frame ∷ frames) =
    max (max (depth frame.stack) (depth_in (frame_behind point frame))) (greatest_of points frames)
