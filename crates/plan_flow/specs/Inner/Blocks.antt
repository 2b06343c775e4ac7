-- Blocks of flat code: a block is entered at its head alone and left behind its last point alone. While the least plan is found
-- heads alone hold states.
use Rattle.std.specs.Prelude.{◌≡◌, ◌<◌, ◌≤◌, ◌+◌, ◌&&◌, ◌||◌, ◌==◌, ◌⊎◌, ℕ, Bool, true, false, List, [], ◌∷◌, length, slice_get, slice_set, get_or, Option, Some, None, IsTrue, IsFalse, if◌then◌else◌}
use Rattle.class_tree.specs.Headers.{Classes, headers_of}
use Rattle.class_model.specs.declared.instr.Instr.{Instr}
use Rattle.class_model.specs.declared.instr.Instr.TheVariants.{ArrayLoad, ArrayStore, Divide, PutStatic, GetField, PutField, Invoke, Dynamic, NewArray, NewRefArray, NewMulti, Length, Throw, Cast, Enter, Leave}
use Rattle.flow_code.specs.FlatCode.{FlatCode, point_at}
use Rattle.flow_code.specs.declared.point.FlatInstr.{FlatInstr}
use Rattle.flow_code.specs.declared.point.FlatInstr.TheVariants.{Of, NullTest}
use Rattle.flow_code.specs.declared.point.Point.{Point}
use Rattle.member_link.specs.Machine.Links.{AreLinksOf}
use Rattle.member_link.specs.Machine.Programs.{Links}
use Rattle.plan_flow.specs.Effect.{AreEdges, IsStateBehind}
use Rattle.plan_flow.specs.Inner.Iteration.{IsCleaned, IsLeft, IsTarget}
use Rattle.plan_flow.specs.Inner.Reaching.{Reached, reached_in, AreFollowed, AreReaching, AreStarted, IsLess, unreached_in}
use Rattle.plan_flow.specs.Inner.Sharing.{open_by, points_of, targets_in}
use Rattle.plan_flow.specs.Must.{row_of_point}
use Rattle.plan_flow.specs.PlanRows.{RowEdge}
use Rattle.plan_flow.specs.PlanScope.{PlanScope, scope_of}
use Rattle.plan_flow.specs.PlanTable.{falls_on, targets_at}
use Rattle.plan_flow.specs.declared.edge.Edge.{Edge}
use Rattle.plan_flow.specs.declared.edge.EdgeKind.TheVariants as kinds
use Rattle.virtual_state.specs.Orders.{IsBelow}
use Rattle.virtual_state.specs.Sites.{has}
use Rattle.virtual_state.specs.States.{State, IsState}

-- ---- heads

-- an instruction may throw, by its form
abbrev pub throws_by_form : Instr → Bool
throws_by_form (ArrayLoad opcode) = true
throws_by_form (ArrayStore opcode) = true
throws_by_form (Divide opcode) = true
throws_by_form (PutStatic index) = true
throws_by_form (GetField index) = true
throws_by_form (PutField index) = true
throws_by_form (Invoke opcode index count) = true
throws_by_form (Dynamic index) = true
throws_by_form (NewArray code) = true
throws_by_form (NewRefArray index) = true
throws_by_form (NewMulti index dimensions) = true
throws_by_form Length = true
throws_by_form Throw = true
throws_by_form (Cast index) = true
throws_by_form Enter = true
throws_by_form Leave = true
throws_by_form other = false

abbrev pub may_throw : FlatInstr → Bool
may_throw (Of class instr) = throws_by_form instr
may_throw (NullTest local) = true

-- the points to which a point has edges by handlers
abbrev pub caught_by : Point → List ℕ
caught_by point = if may_throw point.instr then points_of point.handlers else []

abbrev pub has_some : List ℕ → Bool
has_some [] = false
has_some (to ∷ others) = true

-- a point has an edge to a jump target or a handler
abbrev pub branches : Point → Bool
branches point = has_some (targets_at point.instr) || has_some (caught_by point)

-- A point makes another one a head: it has an edge to that besides the one to the next point, or it has such an edge to any
-- point, and that is the next one.
abbrev pub makes_head : ℕ → Point → ℕ → Bool
makes_head at point to =
    (has (targets_at point.instr) to || has (caught_by point) to) || (branches point && (at + 1 == to))

-- A head of a block: point 0, a target of a jump, a target of a handler, or a point behind one that has an edge to such a target. A point
-- to which two edges lead is one of these.
pub data IsHead (flat : FlatCode) : ℕ → Type 0 where
  at_start : IsHead flat 0
  made_by : (at to : ℕ) (point : Point)
      → point_at flat at ≡ Some point
      → IsTrue (makes_head at point to)
      → IsHead flat to

-- a point is marked, or there is no such point
abbrev pub marked : List Bool → ℕ → Bool
marked heads at = get_or heads at true

-- Marks of the heads of all blocks, as far as the points below a number make them.
pub record AreHeadsUpTo (flat : FlatCode) (heads : List Bool) (count : ℕ) : Type 0 where
  pub len : length heads ≡ length flat.points
  pub start : IsTrue (marked heads 0)
  pub only : (at : ℕ) → at < length flat.points → IsTrue (marked heads at) → IsHead flat at
  pub each : (at to : ℕ) (point : Point)
      → at < count
      → point_at flat at ≡ Some point
      → IsTrue (makes_head at point to)
      → IsTrue (marked heads to)

-- the heads of all blocks are marked, and no other point
abbrev pub AreHeads : FlatCode → List Bool → Type 0
AreHeads flat heads = AreHeadsUpTo flat heads (length flat.points)

-- points of a list are marked too
pub record AreMarked (before after : List Bool) (points : List ℕ) : Type 0 where
  pub len : length after ≡ length before
  pub same : (at : ℕ) → marked after at ≡ (marked before at || has points at)

-- the heads that a point makes are marked too
pub record IsMarkedBy (at : ℕ) (point : Point) (before after : List Bool) : Type 0 where
  pub len : length after ≡ length before
  pub same : (to : ℕ) → marked after to ≡ (marked before to || makes_head at point to)

-- ---- the table of the iteration

-- which points are heads, and the state before each point that is reached
pub record HeadTable : Type 0 where
  pub heads : List Bool
  pub states : List (Option State)

-- heads alone hold states
pub record HoldHeads (heads : List Bool) (states : List (Option State)) : Type 0 where
  pub len : length states ≡ length heads
  pub each : (at : ℕ) (state : State) → reached_in states at ≡ Some state → IsTrue (marked heads at)

-- ---- states inside blocks

-- the edge to the next point
abbrev pub next_edge : PlanScope → ℕ → Point → RowEdge
next_edge s at point = record { by = kinds.Next; to = at + 1; guard = (row_of_point s at point).next }

-- A state of the point behind one, to which one edge leads: it is below all that this edge may lead to.
pub record IsInner (s : PlanScope) (states : Reached) (at : ℕ) (state : State) : Type 0 where
  pub point : Point
  pub is_point : point_at s.flat at ≡ Some point
  pub falls : IsTrue (falls_on point.instr)
  pub before : State
  pub is_found : states at ≡ Some before
  pub least : (above left behind target : State)
      → IsBelow before above
      → IsLeft s at point above left
      → IsStateBehind s point at left (next_edge s at point) behind
      → IsTarget s (at + 1) behind target
      → IsBelow state target

-- States of all points, of which heads hold some.
pub record IsSpread (s : PlanScope) (table : HeadTable) (states : List (Option State))
    : Type 0 where
  pub same : (at : ℕ) → IsTrue (marked table.heads at) → reached_in table.states at ≡ reached_in states at
  pub inner : (at : ℕ) (state : State)
      → IsFalse (marked table.heads (at + 1))
      → reached_in states (at + 1) ≡ Some state
      → IsInner s (reached_in states) at state

-- the same in each scope of a tree
pub record AreSpread (classes : Classes) (flat : FlatCode) (table : HeadTable)
    (states : List (Option State))
    : Type 0 where
  pub heads : AreHeads flat table.heads
  pub len : length states ≡ length table.states
  pub each : (links : Links)
      → AreLinksOf (headers_of classes) links
      → IsSpread (scope_of classes links flat) table states

-- There are states of all points, of which heads hold some, so that the edges of the points lead to their targets, but for those
-- of the heads that are listed.
pub record AreReachingBy (classes : Classes) (flat : FlatCode) (table : HeadTable) (work : List ℕ)
    : Type 0 where
  pub states : List (Option State)
  pub reaching : AreReaching classes flat states work
  pub spread : AreSpread classes flat table states
  pub listed : (at : ℕ) → IsTrue (has work at) → IsTrue (marked table.heads at)

-- ---- from a head to the end of its block

-- The edges of a point in a state.
pub record AreEdgesAt (classes : Classes) (flat : FlatCode) (targets : List (List ℕ)) (at : ℕ)
    (state : State) (edges : List Edge)
    : Type 0 where
  pub left : State
  pub left_state : IsState left
  pub is_left : (links : Links) (point : Point)
      → AreLinksOf (headers_of classes) links
      → point_at flat at ≡ Some point
      → IsLeft (scope_of classes links flat) at point state left
  pub effect : (links : Links) (point : Point)
      → AreLinksOf (headers_of classes) links
      → point_at flat at ≡ Some point
      → AreEdges (scope_of classes links flat) point at left
      (open_by (scope_of classes links flat) at point left (Some (targets_in targets at))) edges

-- The state that a point has by the edges of the point before, if it is inside a block and they lead to it.
pub record IsStateInside (flat : FlatCode) (heads : List Bool) (at : ℕ) (edges : List Edge)
    (state : Option State)
    : Type 0 where
  pub some : (clean : State)
      → state ≡ Some clean
      → IsFalse (marked heads at)
      × ((edge : Edge) × (slice_get edges 0 ≡ Some edge) × IsCleaned flat at edge.state clean)
  pub none : state ≡ None → IsTrue (marked heads at) ⊎ (slice_get edges 0 ≡ None)

-- A block was gone through up to a point whose edges these are.
pub record IsWalked (classes : Classes) (flat : FlatCode) (targets : List (List ℕ))
    (table : HeadTable) (work : List ℕ) (at : ℕ) (edges : List Edge)
    : Type 0 where
  pub states : List (Option State)
  pub reaching : AreReaching classes flat states (at ∷ work)
  pub spread : AreSpread classes flat table states
  pub state : State
  pub found : reached_in states at ≡ Some state
  pub leaves : AreEdgesAt classes flat targets at state edges

-- A block was gone through up to its last point, whose edges these are.
pub record IsBlockWalked (classes : Classes) (flat : FlatCode) (targets : List (List ℕ))
    (table : HeadTable) (work : List ℕ) (edges : List Edge)
    : Type 0 where
  pub last : ℕ
  pub walked : IsWalked classes flat targets table work last edges
  pub ends : (number : ℕ) (edge : Edge)
      → slice_get edges number ≡ Some edge
      → IsTrue (marked table.heads edge.to)

-- ---- heads are raised

-- Edges that are to be followed: they lead to heads.
pub record AreStartedBy (classes : Classes) (flat : FlatCode) (table : HeadTable)
    (states : List (Option State)) (edges : List Edge)
    : Type 0 where
  pub spread : AreSpread classes flat table states
  pub start : AreStarted classes flat states edges
  pub ends : (number : ℕ) (edge : Edge)
      → slice_get edges number ≡ Some edge
      → IsTrue (marked table.heads edge.to)

-- the same, for some states of all points
pub record CanBeFollowed (classes : Classes) (flat : FlatCode) (table : HeadTable)
    (edges : List Edge)
    : Type 0 where
  pub states : List (Option State)
  pub started : AreStartedBy classes flat table states edges

-- Edges were followed.
pub record AreFollowedBy (classes : Classes) (flat : FlatCode) (before after : HeadTable)
    (states : List (Option State)) (work also : List ℕ) (edges : List Edge) (new : Bool)
    : Type 0 where
  pub more : List (Option State)
  pub followed : AreFollowed classes flat states more work also edges
  pub spread : AreSpread classes flat after more
  pub same_heads : after.heads ≡ before.heads
  pub listed : (at : ℕ) → IsTrue (has also at) → IsTrue (has work at) ⊎ IsTrue (marked before.heads at)
  pub less : IsLess before.states after.states work also new

-- A block's edges were followed.
pub record IsVisited (classes : Classes) (flat : FlatCode) (before after : HeadTable)
    (work also : List ℕ) (new : Bool)
    : Type 0 where
  pub less : IsLess before.states after.states work also new
  pub reaching : AreReachingBy classes flat after also

-- Heads were taken from the work list until one was reached for the first time, or until none was left.
pub record IsAdvanced (classes : Classes) (flat : FlatCode) (before after : HeadTable)
    (also : List ℕ) (new : Bool)
    : Type 0 where
  pub fewer : unreached_in after.states ≤ unreached_in before.states
  pub reaches : IsTrue new → unreached_in after.states < unreached_in before.states
  pub done : IsFalse new → also ≡ []
  pub reaching : AreReachingBy classes flat after also

-- ---- the states of all points

-- The states of points up to a number, and those of heads, are what any states of all points are of which heads hold these. No other
-- point has one yet.
pub record IsKnownTo (classes : Classes) (flat : FlatCode) (table : HeadTable) (at : ℕ)
    (known : List (Option State))
    : Type 0 where
  pub len : length known ≡ length table.states
  pub hold : length table.states ≡ length table.heads
  pub ahead : (place : ℕ)
      → at < place
      → IsFalse (marked table.heads place)
      → reached_in known place ≡ None
  pub each : (all : AreReachingBy classes flat table []) (place : ℕ)
      → (place ≤ at) ⊎ IsTrue (marked table.heads place)
      → reached_in known place ≡ reached_in all.states place

-- a state is put in, if there is one
abbrev pub put_state : List (Option State) → ℕ → Option State → List (Option State)
put_state states at None = states
put_state states at (Some state) = slice_set states at (Some state)
