-- What an instruction of flat code leaves, edge by edge, in a state in which it asks for no object. It is this project's profile.
use Rattle.std.specs.Prelude.{◌≡◌, ◌++◌, ℕ, List, [], ◌∷◌, length, Option, Some, None}
use Rattle.flow_code.specs.FlatCode.{point_at}
use Rattle.flow_code.specs.declared.point.Point.{Point}
use Rattle.plan_flow.specs.Must.{open_edges, row_of_point}
use Rattle.plan_flow.specs.PlanRows.{RowEdge}
use Rattle.plan_flow.specs.PlanScope.{PlanScope}
use Rattle.plan_flow.specs.PlanSlots.{local_slots, stack_slots, edge_objects}
use Rattle.plan_flow.specs.declared.edge.Edge.{Edge}
use Rattle.virtual_state.specs.Making.{IsStateOf}
use Rattle.virtual_state.specs.States.{State, IsState}

-- The state behind an edge: the moved slots, and the objects that they reach.
pub record IsStateBehind (s : PlanScope) (point : Point) (at : ℕ) (before : State) (edge : RowEdge)
    (state : State)
    : Type 0 where
  pub is_state : IsState state
  pub is : IsStateOf
      (local_slots s before (row_of_point s at point) (length point.typed.locals) edge
      ++ stack_slots s before (row_of_point s at point) edge)
      (edge_objects s before (row_of_point s at point) edge.by) state

-- one edge each, in order
abbrev pub AreEdges : PlanScope → Point → ℕ → State → List RowEdge → List Edge → Type 0
AreEdges s point at before [] [] = Unit {0}
AreEdges s point at before (one ∷ others) (edge ∷ edges) =
    (edge.by ≡ one.by)
    × (edge.to ≡ one.to)
    × IsStateBehind s point at before one edge.state
    × AreEdges s point at before others edges
AreEdges s point at before others edges = ⊥

-- The edges that control may take from a point in a state, with the states behind them: the one to the next point, then those to the
-- targets, a switch's default first, then those to the handlers. Only the edge that is taken stands where a virtual object
-- decides a comparison.
abbrev pub IsEffectIn : PlanScope → ℕ → Option Point → State → List Edge → Type 0
IsEffectIn s at None before edges = edges ≡ []
IsEffectIn s at (Some point) before edges =
    AreEdges s point at before (open_edges s at point before) edges

-- the same of the point of a number
abbrev pub IsEffect : PlanScope → ℕ → State → List Edge → Type 0
IsEffect s at before edges = IsEffectIn s at (point_at s.flat at) before edges
