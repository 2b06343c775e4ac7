-- Plans of flat code: which points are reached, with which state, and which objects are made there. It is this project's profile.
use Rattle.std.specs.Prelude.{◌≡◌, ◌<◌, ◌+◌, ◌++◌, ℕ, Bool, false, List, [], ◌∷◌, map, length, drop, slice_get, Option, Some, IsTrue, IsFalse}
use Rattle.std.specs.Option.{option_flatten}
use Rattle.class_model.specs.Frames.{is_top}
use Rattle.flow_code.specs.FlatCode.{FlatCode, point_at}
use Rattle.flow_code.specs.declared.point.Point.{Point}
use Rattle.plan_flow.specs.Effect.{IsEffect}
use Rattle.plan_flow.specs.Must.{IsMust}
use Rattle.plan_flow.specs.PlanScope.{PlanScope, field_count, local_types, stack_types}
use Rattle.plan_flow.specs.PlanSlots.{beneath_top, fit_locals, fit_stack}
use Rattle.plan_flow.specs.PlanTable.{falls_on}
use Rattle.plan_flow.specs.declared.edge.Edge.{Edge}
use Rattle.plan_flow.specs.declared.edge.EdgeKind.{EdgeKind}
use Rattle.virtual_state.specs.Orders.{IsBelow}
use Rattle.virtual_state.specs.Sites.{has, differing}
use Rattle.virtual_state.specs.States.{State, IsState, IsIncreasing, is_present, is_unusable, names, object_of}
use Rattle.virtual_state.specs.Without.{IsClosed, without}
use Rattle.virtual_state.specs.declared.slot.VObject.{VObject}

-- an edge, and the sites whose objects are made on it
pub record MadeEdge : Type 0 where
  pub by : EdgeKind
  pub to : ℕ
  pub made : List ℕ

-- A point that is reached: the state before it, the sites whose objects are made before the instruction, and its edges.
pub record PlannedPoint : Type 0 where
  pub state : State
  pub made : List ℕ
  pub edges : List MadeEdge

-- what is planned for each point, if it is reached
abbrev pub Plan : Type 0
Plan = List (Option PlannedPoint)

abbrev pub planned : Plan → ℕ → Option PlannedPoint
planned plan at = option_flatten (slice_get plan at)

-- the state in which the instruction is done
abbrev pub state_left : PlannedPoint → State
state_left point = without point.state (has point.made)

-- ---- flat code that control does not leave

-- There is a point, and a next one behind each point from which control may fall through.
pub record FlowsInside (flat : FlatCode) : Type 0 where
  pub some : 0 < length flat.points
  pub next :
      (at : ℕ) (point : Point)
      → point_at flat at ≡ Some point
      → IsTrue (falls_on point.instr)
      → at + 1 < length flat.points

-- ---- states of a point

-- which places of a point are unusable: the local units whose type is Top
abbrev pub unusable_places : PlanScope → ℕ → List Bool
unusable_places s at =
    map is_top (local_types s.flat at) ++ map (λ type. false) (stack_types s.flat at)

-- A state has the places of a point, and each object as many fields as those of its site.
pub record IsStateAt (s : PlanScope) (at : ℕ) (state : State) : Type 0 where
  pub is_state : IsState state
  pub places : map is_unusable state.slots ≡ unusable_places s at
  pub fields :
      (site : ℕ) (object : VObject)
      → object_of state.objects site ≡ Some object
      → length object.fields ≡ field_count s site

-- a closed set of present sites
pub record IsMadeIn (state : State) (sites : List ℕ) : Type 0 where
  pub order : IsIncreasing sites
  pub present : (site : ℕ) → IsTrue (has sites site) → IsTrue (is_present state.objects site)
  pub closed : IsClosed (has sites) state.objects

-- no stack entry at or below one whose type is Top holds a virtual object
pub record HasPlainBeneathTop (s : PlanScope) (at : ℕ) (state : State) : Type 0 where
  pub each : (site : ℕ)
      → IsFalse (names (beneath_top (stack_types s.flat at)
      (drop (length (local_types s.flat at)) state.slots)) site)

pub record IsPlannedAt (s : PlanScope) (at : ℕ) (point : PlannedPoint) : Type 0 where
  pub state : IsStateAt s at point.state
  pub made : IsMadeIn point.state point.made
  pub beneath : HasPlainBeneathTop s at point.state

-- The state of a point that has no site.
abbrev pub state_without_sites : PlanScope → ℕ → State
state_without_sites s at = record {
  slots = fit_locals (local_types s.flat at) [] ++ fit_stack (stack_types s.flat at) [];
  objects = [];
}

-- ---- edges

-- the target is reached with a state that the edge's is below, and the objects that are made on the edge are those by which
-- they differ
pub record LeadsTo (plan : Plan) (edge : Edge) (made : MadeEdge) : Type 0 where
  pub target : PlannedPoint
  pub reached : planned plan edge.to ≡ Some target
  pub below : IsBelow edge.state target.state
  pub same_by : made.by ≡ edge.by
  pub same_to : made.to ≡ edge.to
  pub same_made : made.made ≡ differing edge.state target.state

abbrev pub AllLead : Plan → List Edge → List MadeEdge → Type 0
AllLead plan [] [] = Unit {0}
AllLead plan (edge ∷ edges) (made ∷ others) = LeadsTo plan edge made × AllLead plan edges others
AllLead plan edges others = ⊥

-- a point is led to from point 0 over edges of the plan
pub data IsLedTo (plan : Plan) : ℕ → Type 0 where
  at_start : IsLedTo plan 0
  over_edge : (from number : ℕ) (point : PlannedPoint) (edge : MadeEdge)
      → IsLedTo plan from
      → planned plan from ≡ Some point
      → slice_get point.edges number ≡ Some edge
      → IsLedTo plan edge.to

-- ---- valid plans, and the least one

-- the plan of a point: the instruction asks for no object that is still virtual, and each edge leads to its target
pub record IsValidAt (s : PlanScope) (plan : Plan) (at : ℕ) (point : PlannedPoint) : Type 0 where
  pub is_planned : IsPlannedAt s at point
  pub led_to : IsLedTo plan at
  pub asks_none : IsMust s at (state_left point) []
  pub edges : List Edge
  pub effect : IsEffect s at (state_left point) edges
  pub lead : AllLead plan edges point.edges

-- Point 0 is reached with the state that has no site, and each point that is reached is planned so.
pub record IsValid (s : PlanScope) (plan : Plan) : Type 0 where
  pub points : length plan ≡ length s.flat.points
  pub start : PlannedPoint
  pub is_start : planned plan 0 ≡ Some start
  pub no_site : start.state ≡ state_without_sites s 0
  pub each : (at : ℕ) (point : PlannedPoint)
      → planned plan at ≡ Some point
      → IsValidAt s plan at point

-- what a plan says of a point is below what another one says of it, both before objects are made there and after
pub record IsPointBelow (point other : PlannedPoint) : Type 0 where
  pub before : IsBelow point.state other.state
  pub after : IsBelow (state_left point) (state_left other)

-- each point that a plan reaches is reached by the other one, with what is above
pub record IsPlanBelow (plan other : Plan) : Type 0 where
  pub each : (at : ℕ) (point : PlannedPoint)
      → planned plan at ≡ Some point
      → (also : PlannedPoint) × (planned other at ≡ Some also) × IsPointBelow point also

-- The plan is valid, and below each valid one.
pub record IsLeast (s : PlanScope) (plan : Plan) : Type 0 where
  pub valid : IsValid s plan
  pub least : (other : Plan) → IsValid s other → IsPlanBelow plan other
