-- What is reached so far while the least plan is found, and what is left to be done.
use Rattle.std.specs.Prelude.{◌≡◌, ◌<◌, ◌≤◌, ◌+◌, ◌*◌, ◌⊎◌, ℕ, Bool, List, [], ◌∷◌, length, slice_get, Option, Some, None, IsTrue, IsFalse}
use Rattle.std.specs.Option.{option_flatten}
use Rattle.class_tree.specs.Headers.{Classes, headers_of}
use Rattle.flow_code.specs.FlatCode.{FlatCode, point_at}
use Rattle.flow_code.specs.declared.point.Point.{Point}
use Rattle.member_link.specs.Machine.Links.{AreLinksOf}
use Rattle.member_link.specs.Machine.Programs.{Links}
use Rattle.plan_flow.specs.Effect.{IsStateBehind}
use Rattle.plan_flow.specs.Inner.Iteration.{IsLeft}
use Rattle.plan_flow.specs.Must.{open_edges}
use Rattle.plan_flow.specs.PlanRows.{RowEdge}
use Rattle.plan_flow.specs.PlanScope.{PlanScope, scope_of}
use Rattle.plan_flow.specs.Plans.{Plan, PlannedPoint, planned, IsStateAt, HasPlainBeneathTop, IsValid, state_without_sites}
use Rattle.plan_flow.specs.declared.edge.Edge.{Edge}
use Rattle.virtual_state.specs.Orders.{IsBelow}
use Rattle.virtual_state.specs.Sites.{has}
use Rattle.virtual_state.specs.States.{State}

-- ---- states of points

-- the state before each point that is reached
abbrev pub Reached : Type 0
Reached = ℕ → Option State

-- the same, where the points are listed
abbrev pub reached_in : List (Option State) → Reached
reached_in states at = option_flatten (slice_get states at)

-- a point is led to from point 0, by edges that control may take
pub data IsLedIn (s : PlanScope) (states : Reached) : ℕ → Type 0 where
  led_first : IsLedIn s states 0
  led_over : (from number : ℕ) (point : Point) (state left : State) (row : RowEdge)
      → IsLedIn s states from
      → point_at s.flat from ≡ Some point
      → states from ≡ Some state
      → IsLeft s from point state left
      → slice_get (open_edges s from point left) number ≡ Some row
      → IsLedIn s states row.to

-- each valid plan reaches a point, with a state above this one
abbrev pub IsLower : PlanScope → ℕ → State → Type 0
IsLower s at state =
    (plan : Plan)
    → IsValid s plan
    → (point : PlannedPoint) × (planned plan at ≡ Some point) × IsBelow state point.state

-- Point 0 is reached, with no site, and each point that is reached has a state that is below that of each valid plan.
pub record IsUnder (s : PlanScope) (states : Reached) : Type 0 where
  pub start : states 0 ≡ Some (state_without_sites s 0)
  pub at : (place : ℕ) (state : State) → states place ≡ Some state → IsStateAt s place state
  pub beneath :
      (place : ℕ) (state : State) → states place ≡ Some state → HasPlainBeneathTop s place state
  pub inside :
      (place : ℕ) (state : State) → states place ≡ Some state → place < length s.flat.points
  pub led : (place : ℕ) (state : State) → states place ≡ Some state → IsLedIn s states place
  pub lower : (plan : Plan)
      → IsValid s plan
      → (place : ℕ) (state : State)
      → states place ≡ Some state
      → (point : PlannedPoint) × (planned plan place ≡ Some point) × IsBelow state point.state

-- a target is reached, with a state above this one
pub record LeadsIn (states : Reached) (to : ℕ) (behind : State) : Type 0 where
  pub target : State
  pub reached : states to ≡ Some target
  pub below : IsBelow behind target

-- each edge of a point leads to its target
pub record AllLeadAt (s : PlanScope) (states : Reached) (at : ℕ) : Type 0 where
  pub each :
      (number : ℕ) (point : Point) (state left behind : State) (row : RowEdge)
      → point_at s.flat at ≡ Some point
      → states at ≡ Some state
      → IsLeft s at point state left
      → slice_get (open_edges s at point left) number ≡ Some row
      → IsStateBehind s point at left row behind
      → LeadsIn states row.to behind

-- ---- the work list

-- the edges of the points lead to their targets, but for those of the points that are listed
pub record IsReaching (s : PlanScope) (states : List (Option State)) (work : List ℕ) : Type 0 where
  pub len : length states ≡ length s.flat.points
  pub under : IsUnder s (reached_in states)
  pub lead : (at : ℕ) → IsFalse (has work at) → AllLeadAt s (reached_in states) at

-- an edge to a point with this state behind it, which control may take from a point that is reached
pub record IsEdgeTo (s : PlanScope) (states : Reached) (to : ℕ) (behind : State) : Type 0 where
  pub led : IsLedIn s states to
  pub is_at : IsStateAt s to behind
  pub inside : to < length s.flat.points
  pub lower : IsLower s to behind

-- ---- progress

-- more is reached, with states that are above
pub record IsMore (states more : Reached) : Type 0 where
  pub each : (place : ℕ) (state : State)
      → states place ≡ Some state
      → (above : State) × (more place ≡ Some above) × IsBelow state above

-- how many points are not reached
abbrev pub unreached_in : List (Option State) → ℕ
unreached_in [] = 0
unreached_in (None ∷ states) = 1 + unreached_in states
unreached_in (Some state ∷ states) = unreached_in states

-- how many objects the states of points have
abbrev pub objects_in : List (Option State) → ℕ
objects_in [] = 0
objects_in (None ∷ states) = objects_in states
objects_in (Some state ∷ states) = length state.objects + objects_in states

-- A point was reached, or else states have fewer objects, or fewer points are listed.
pub record IsLess (before after : List (Option State)) (work also : List ℕ) (new : Bool)
    : Type 0 where
  pub fewer : unreached_in after ≤ unreached_in before
  pub reaches : IsTrue new → unreached_in after < unreached_in before
  pub lighter : IsFalse new
      → objects_in after * 2 + length also ≤ objects_in before * 2 + length work

-- States were raised, and the points at which they were are listed.
pub record IsRaisedTo (before after : List (Option State)) (work also : List ℕ) : Type 0 where
  pub len : length after ≡ length before
  pub more : IsMore (reached_in before) (reached_in after)
  pub same : (at : ℕ) → IsFalse (has also at) → reached_in after at ≡ reached_in before at
  pub listed : (at : ℕ) → IsTrue (has work at) → IsTrue (has also at)

-- Edges that are to be followed: each valid plan has them, and what is reached is below it.
pub record AreStarted (classes : Classes) (flat : FlatCode) (states : List (Option State))
    (edges : List Edge)
    : Type 0 where
  pub len : length states ≡ length flat.points
  pub under : (links : Links)
      → AreLinksOf (headers_of classes) links
      → IsUnder (scope_of classes links flat) (reached_in states)
  pub edge : (links : Links) (number : ℕ) (edge : Edge)
      → AreLinksOf (headers_of classes) links
      → slice_get edges number ≡ Some edge
      → IsEdgeTo (scope_of classes links flat) (reached_in states) edge.to edge.state

-- Edges were followed: they lead to their targets, and all else is as it should be.
pub record AreFollowed (classes : Classes) (flat : FlatCode) (before after : List (Option State))
    (work also : List ℕ) (edges : List Edge)
    : Type 0 where
  pub raised : IsRaisedTo before after work also
  pub under : (links : Links)
      → AreLinksOf (headers_of classes) links
      → IsUnder (scope_of classes links flat) (reached_in after)
  pub lead : (number : ℕ) (edge : Edge)
      → slice_get edges number ≡ Some edge
      → LeadsIn (reached_in after) edge.to edge.state

-- the edges of the points lead to their targets in each scope of a tree, but for those of the points that are listed
abbrev pub AreReaching : Classes → FlatCode → List (Option State) → List ℕ → Type 0
AreReaching classes flat states work =
    (links : Links)
    → AreLinksOf (headers_of classes) links
    → IsReaching (scope_of classes links flat) states work

-- ---- points of a work list

-- A point is listed too.
pub record HasListed (before after : List ℕ) (at : ℕ) : Type 0 where
  pub here : IsTrue (has after at)
  pub others : (other : ℕ) → IsTrue (has before other) → IsTrue (has after other)
  pub only : (other : ℕ) → IsTrue (has after other) → (at ≡ other) ⊎ IsTrue (has before other)
  pub more : length after ≤ length before + 1
