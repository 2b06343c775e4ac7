-- What all families of blocks take: the hypotheses, and what the laws of other crates and of this one say of them. And the words in which they say
-- where a frame goes.
use Rattle.std.specs.Prelude.{◌≡◌, ◌≢◌, ◌+◌, ◌++◌, ℕ, false, List, [], ◌∷◌, drop, length, replicate, slice_get, Option, Some, None, IsTrue}
use Rattle.std.specs.List.{AllByRecursion}
use Rattle.class_model.specs.Frames.{is_top}
use Rattle.class_model.specs.declared.frame.Frame.{Frame}
use Rattle.class_model.specs.declared.frame.VType.{VType}
use Rattle.class_model.specs.declared.frame.VType.TheVariants.{Top, UninitThis}
use Rattle.class_model.specs.declared.instr.Instr.TheVariants.{New}
use Rattle.class_tree.specs.Headers.{headers_of}
use Rattle.class_tree.specs.Hierarchy.{IsHierarchy}
use Rattle.flow_code.specs.FlatCode.{FlatCode, point_at}
use Rattle.flow_code.specs.ReadTypes.{read_frame}
use Rattle.flow_code.specs.WrittenUnits.{greatest_depth}
use Rattle.flow_code.specs.declared.handlers.FlatHandler.{FlatHandler}
use Rattle.flow_code.specs.declared.point.FlatInstr.TheVariants.{Of}
use Rattle.flow_code.specs.declared.point.Point.{Point}
use Rattle.making_code.specs.Items.{WItem, to_handler_pad, to_point}
use Rattle.making_code.specs.MakeCode.{names_in}
use Rattle.making_code.specs.MakeOrder.{IsMakeOrder}
use Rattle.making_code.specs.StateFrames.{site_types_from, state_frame}
use Rattle.member_link.specs.Bodies.{caught_type}
use Rattle.member_link.specs.Rows.Assigning.{IsFrameAssignableIn}
use Rattle.member_link.specs.Rows.Row.{stack_behind}
use Rattle.plan_flow.specs.Laws.RoutedPlans.{HasOneEffect}
use Rattle.plan_flow.specs.Must.{row_of_point}
use Rattle.plan_flow.specs.PlanSlots.{edge_locals, edge_objects, edge_stack, slots_from}
use Rattle.member_link.specs.Scope.{Scope}
use Rattle.plan_flow.specs.PlanScope.{PlanScope, local_types, stack_types}
use Rattle.plan_flow.specs.Plans.{IsMadeIn}
use Rattle.plan_flow.specs.Written.Blocks.{instruction_block, is_decided, making, of_point, state_written}
use Rattle.plan_flow.specs.Written.Finish.{Finished, begins_point, end_items}
use Rattle.plan_flow.specs.Written.FramedCode.{frame_by_item}
use Rattle.plan_flow.specs.Written.Routes.{Route, RouteEdge, edge_by}
use Rattle.plan_flow.specs.Written.Templates.{jump_target, to_or_pad}
use Rattle.plan_flow.specs.Written.WrittenCode.{block_items, start_of, target_number, written_items}
use Rattle.plan_flow.specs.declared.edge.EdgeKind.{EdgeKind}
use Rattle.plan_flow.specs.declared.edge.EdgeKind.TheVariants as edges
use Rattle.same_runs.specs.FlatBodies.{caught_class}
use Rattle.same_runs.specs.TypedFlats.{read_row}
use Rattle.virtual_state.specs.Sites.{has}
use Rattle.virtual_state.specs.States.{IsState, State}
use Rattle.virtual_state.specs.Without.{without}
use Rattle.virtual_state.specs.declared.slot.Slot.{Slot}
use Rattle.virtual_state.specs.declared.slot.Slot.TheVariants.{Plain, Virt, Unusable}
use Rattle.virtual_state.specs.declared.slot.VObject.{VObject}
use Rattle.written_types.specs.FitsTypes.{FitsRoutes, FitsTypes, is_reached}
use Rattle.written_types.specs.Setting.{Setting}
use Rattle.written_types.specs.Inner.CarriedFrames.{Agrees, Carries, GoesBehind, IsFresh, IsPlaced}
use Rattle.written_types.specs.Writing.{Writing, scope_in}

pub record Given (w : Writing) : Type 0 where
  pub setting : Setting w
  pub hierarchy : IsHierarchy (headers_of w.s.classes)
  -- `ways_of_a_plan_keep_types`
  pub fits : FitsRoutes w.s setting.routes
  -- `effect_grows`
  pub one_effect : HasOneEffect w.s

-- ---- frames of states, and blocks that have them

-- what written code has at a typed point in a state, by the numbers of items
abbrev pub frame_at_state : Writing → ℕ → State → Frame
frame_at_state w at state = frame_by_item w.form w.blocks (state_frame w.s.flat at state)

-- a frame may stand for that of a typed point in a state, and has no uninitialised this
pub record FitsState (w : Writing) (frame : Frame) (at : ℕ) (state : State) : Type 0 where
  pub assignable : IsFrameAssignableIn (scope_in w).headers (scope_in w).major frame (frame_at_state w at state)
  pub no_this : AllByRecursion (λ type. type ≢ UninitThis) frame.locals

-- a block begins at a typed point in a state
pub record BeginsAt (one : Finished) (at : ℕ) (state : State) : Type 0 where
  pub is_at : one.block.at ≡ at
  pub is_state : one.block.state ≡ state

-- such a block stands at the item of a number
pub record StandsFor (w : Writing) (number at : ℕ) (state : State) : Type 0 where
  pub block : Finished
  pub placed : IsPlaced w number block
  pub begins : BeginsAt block at state

-- such a block comes next
pub record ComesNext (behind : List Finished) (at : ℕ) (state : State) : Type 0 where
  pub next : Finished
  pub others : List Finished
  pub is : behind ≡ next ∷ others
  pub begins : BeginsAt next at state

-- ---- the block of an instruction (E gives it, B, C and D take it)

-- A finished block is that of the instruction of a reached point, and behind it stands what the edge to the next point leads to.
pub record AtInstruction (w : Writing) (given : Given w) (at : ℕ) (point : Point) (route : Route) (one : Finished) (behind : List Finished)
    : Type 0 where
  pub there : point_at w.s.flat at ≡ Some point
  pub is_route : slice_get given.setting.routes at ≡ Some (Some route)
  pub is_block : one.block ≡ instruction_block w.s at point route
  pub next : (edge : RouteEdge) → edge_by route edges.Next ≡ Some edge → ComesNext behind edge.to edge.state

-- Where targets and handlers lead: to the first block of a point, or to a pad, which begins in the state behind the edge.
pub record TargetsStand (w : Writing) (given : Given w) : Type 0 where
  pub first : (at : ℕ) (route : Route)
      → slice_get given.setting.routes at ≡ Some (Some route)
      → StandsFor w (start_of w.form w.blocks (begins_point at)) at route.state
  pub jump : (at : ℕ) (point : Point) (route : Route) (edge : RouteEdge) (target to : ℕ)
      → point_at w.s.flat at ≡ Some point
      → slice_get given.setting.routes at ≡ Some (Some route)
      → is_decided point route ≡ false
      → edge_by route (edges.Jump target) ≡ Some edge
      → (number : ℕ)
      → StandsFor w (target_number w.form w.blocks number (jump_target at route target to)) edge.to edge.state
  pub handler : (at : ℕ) (point : Point) (route : Route) (edge : RouteEdge) (handler : ℕ)
      → point_at w.s.flat at ≡ Some point
      → slice_get given.setting.routes at ≡ Some (Some route)
      → edge_by route (edges.Handler handler) ≡ Some edge
      → (number : ℕ)
      → StandsFor w (target_number w.form w.blocks number (to_or_pad edge.made (to_point edge.to) (to_handler_pad at handler))) edge.to edge.state

-- The items at the end of a block carry a frame to what is behind it.
pub record EndCarries (w : Writing) (number : ℕ) (one : Finished) (behind : List Finished) (frame : Frame) : Type 0 where
  pub last : Option Frame
  pub carries : Carries w number (end_items one.end) frame last
  pub goes : GoesBehind w last behind

-- A block that goes to a point does so at its end; and one that goes to none ends in what goes on to the block behind it.
pub record EndsCarry (w : Writing) (given : Given w) : Type 0 where
  pub leaving : (front behind : List Finished) (one : Finished) (number to : ℕ) (target : Route) (frame : Frame)
      → w.blocks ≡ front ++ (one ∷ behind)
      → one.block.leaves ≡ Some to
      → slice_get given.setting.routes to ≡ Some (Some target)
      → FitsState w frame to target.state
      → EndCarries w number one behind frame
  pub staying : (front behind : List Finished) (one : Finished) (number : ℕ) (frame : Frame)
      → w.blocks ≡ front ++ (one ∷ behind)
      → one.block.leaves ≡ None
      → GoesBehind w (Some frame) behind
      → EndCarries w number one behind frame

-- ---- frames along edges (G)

-- types as they are read, in slots
abbrev pub type_in : VType → Slot → VType
type_in type Plain = type
type_in type (Virt site) = Top
type_in type Unusable = Top

abbrev pub locals_in : List VType → List Slot → List VType
locals_in [] slots = []
locals_in (type ∷ types) [] = []
locals_in (type ∷ types) (slot ∷ slots) = type_in type slot ∷ locals_in types slots

abbrev pub entries_with : Slot → VType → List VType → List VType
entries_with Plain type types = type ∷ types
entries_with (Virt site) type types = types
entries_with Unusable type types = types

abbrev pub entries_in : List VType → List Slot → List VType
entries_in [] slots = []
entries_in (type ∷ types) [] = []
entries_in (type ∷ types) (slot ∷ slots) = entries_with slot type (entries_in types slots)

-- A typed frame, read, with the slots of its locals and of its stack, and with objects: as it is written.
abbrev pub frame_in_slots : FlatCode → Frame → List Slot → List Slot → List VObject → Frame
frame_in_slots flat read slots entries objects = record {
  locals = locals_in read.locals slots
      ++ site_types_from (record { slots = []; objects = objects }) 0 flat.sites
      ++ replicate (length flat.sites) Top
      ++ replicate (greatest_depth flat.points) Top;
  stack = entries_in read.stack entries;
}

-- what the typed frame becomes along an edge, read: behind the row of the point, or at a handler
abbrev pub caught_at : Option FlatHandler → List VType
caught_at None = []
caught_at (Some handler) = caught_type (caught_class handler.catch_class) ∷ []

abbrev pub read_by : PlanScope → Scope → ℕ → Point → EdgeKind → Frame
read_by s scope at point (edges.Handler number) = record {
  locals = (read_frame s.flat point.typed).locals;
  stack = caught_at (slice_get point.handlers number);
}
read_by s scope at point by = record {
  locals = (read_row s.classes scope s.flat at point).locals;
  stack = stack_behind (read_frame s.flat point.typed) (read_row s.classes scope s.flat at point);
}

abbrev pub read_along : Writing → ℕ → Point → EdgeKind → Frame
read_along w at point by = read_by w.s w.host at point by

-- the same as it is written in the slots and with the objects that come along the edge from a state
abbrev pub written_along : Writing → ℕ → Point → State → EdgeKind → Frame
written_along w at point before by =
    frame_in_slots w.s.flat (read_along w at point by)
    (slots_from w.s before (row_of_point w.s at point).change (edge_locals (row_of_point w.s at point) (length point.typed.locals) by))
    (slots_from w.s before (row_of_point w.s at point).change (edge_stack (row_of_point w.s at point) by))
    (edge_objects w.s before (row_of_point w.s at point) by)

-- what the block of an instruction begins with, in the same words
abbrev pub written_before : Writing → Point → State → Frame
written_before w point state =
    frame_in_slots w.s.flat (read_frame w.s.flat point.typed) state.slots (drop (length point.typed.locals) state.slots) state.objects

-- ---- make code (A)

-- the plain entries above the lowest one that is made are not Top, so that they can be saved
abbrev pub NoTops : List VType → List Slot → Type 0
NoTops (type ∷ types) (slot ∷ slots) = (slot ≡ Plain → is_top type ≡ false) × NoTops types slots
NoTops types slots = Unit {0}

abbrev pub NoTopsAbove : List ℕ → List VType → List Slot → Type 0
NoTopsAbove made (type ∷ types) (slot ∷ slots) =
    (IsTrue (names_in made slot) → NoTops types slots) × NoTopsAbove made types slots
NoTopsAbove made types slots = Unit {0}

-- A state at a typed point in which objects are made in an order.
pub record CanMake (w : Writing) (given : Given w) (at : ℕ) (state : State) (made order : List ℕ) : Type 0 where
  pub is_state : IsState state
  pub is_made : IsMadeIn state made
  pub is_order : IsMakeOrder state.objects made order
  pub saves : NoTopsAbove made (stack_types w.s.flat at) (drop (length (local_types w.s.flat at)) state.slots)
  pub fits : FitsTypes w.s (is_reached given.setting.routes) at state

-- items carry a frame to one that fits a state
pub record MakeCarries (w : Writing) (number : ℕ) (items : List WItem) (frame : Frame) (at : ℕ) (state : State) : Type 0 where
  pub last : Frame
  pub carries : Carries w number items frame (Some last)
  pub fits : FitsState w last at state

-- the block is none of a new
abbrev pub IsOfNoNew : Writing → Finished → Type 0
IsOfNoNew w one =
    (at class index : ℕ) (point : Point)
    → one.block.of ≡ of_point at
    → point_at w.s.flat at ≡ Some point
    → point.instr ≢ Of class (New index)

-- Make code among the items of a block: from a frame that fits the state to one that fits the state without the objects that are made.
pub record MakesCarry (w : Writing) (given : Given w) : Type 0 where
  pub make : (front behind : List Finished) (one : Finished) (left right : List WItem) (number at : ℕ) (state : State) (made order : List ℕ)
      (frame : Frame)
      → w.blocks ≡ front ++ (one ∷ behind)
      → block_items w.form one ≡ left ++ (making w.s at state made order ++ right)
      → number ≡ length (written_items w.form front) + length left
      → IsOfNoNew w one
      → CanMake w given at state made order
      → FitsState w frame at state
      → IsFresh w (length (written_items w.form front)) one frame
      → MakeCarries w number (making w.s at state made order) frame at (without state (has made))

-- ---- edges

-- the target's route begins where the objects of the edge are made
pub record EdgeTarget (w : Writing) (given : Given w) (edge : RouteEdge) : Type 0 where
  pub target : Route
  pub is_route : slice_get given.setting.routes edge.to ≡ Some (Some target)
  pub left : target.state ≡ without edge.state (has edge.made)
  pub can_make : CanMake w given edge.to edge.state edge.made edge.order

-- A frame that agrees with what comes along an edge fits the state behind the edge.
pub record EdgesFit (w : Writing) (given : Given w) : Type 0 where
  pub along : (at : ℕ) (point : Point) (route : Route) (by : EdgeKind) (edge : RouteEdge) (frame : Frame)
      → point_at w.s.flat at ≡ Some point
      → slice_get given.setting.routes at ≡ Some (Some route)
      → edge_by route by ≡ Some edge
      → Agrees frame (frame_by_item w.form w.blocks (written_along w at point (state_written route) by))
      → FitsState w frame edge.to edge.state
  pub target : (at : ℕ) (point : Point) (route : Route) (by : EdgeKind) (edge : RouteEdge)
      → point_at w.s.flat at ≡ Some point
      → slice_get given.setting.routes at ≡ Some (Some route)
      → edge_by route by ≡ Some edge
      → EdgeTarget w given edge
