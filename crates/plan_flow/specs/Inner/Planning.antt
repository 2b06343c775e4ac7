-- The plan that the states of points give, where each edge leads to its target.
use Rattle.std.specs.Prelude.{◌≡◌, ℕ, List, [], ◌∷◌, Option, Some, None}
use Rattle.flow_code.specs.FlatCode.{point_at}
use Rattle.flow_code.specs.declared.point.Point.{Point}
use Rattle.plan_flow.specs.Effect.{AreEdges}
use Rattle.plan_flow.specs.Inner.Iteration.{IsLeft}
use Rattle.plan_flow.specs.Inner.Reaching.{Reached}
use Rattle.plan_flow.specs.Must.{open_edges}
use Rattle.plan_flow.specs.PlanScope.{PlanScope}
use Rattle.plan_flow.specs.Plans.{IsMadeIn, MadeEdge, PlannedPoint, state_left}
use Rattle.plan_flow.specs.declared.edge.Edge.{Edge}
use Rattle.virtual_state.specs.Sites.{differing}
use Rattle.virtual_state.specs.States.{State, IsState}

-- the sites whose objects are made on an edge to a target, which is reached
abbrev pub made_on : State → Option State → List ℕ
made_on behind None = []
made_on behind (Some target) = differing behind target

abbrev pub made_edge : Reached → Edge → MadeEdge
made_edge states edge = record {
  by = edge.by;
  to = edge.to;
  made = made_on edge.state (states edge.to);
}

abbrev pub made_edges : Reached → List Edge → List MadeEdge
made_edges states [] = []
made_edges states (edge ∷ edges) = made_edge states edge ∷ made_edges states edges

-- what is planned for a point comes from what was reached there
pub record PlannedFrom (s : PlanScope) (states : Reached) (at : ℕ) (planned_point : PlannedPoint)
    : Type 0 where
  pub point : Point
  pub is_point : point_at s.flat at ≡ Some point
  pub is_found : states at ≡ Some planned_point.state
  pub left : State
  pub is_left : IsLeft s at point planned_point.state left
  pub left_state : IsState left
  pub same_left : state_left planned_point ≡ left
  pub made : IsMadeIn planned_point.state planned_point.made
  pub edges : List Edge
  pub effect : AreEdges s point at left (open_edges s at point left) edges
  pub same_edges : planned_point.edges ≡ made_edges states edges

-- what is planned for a point, if it is reached
pub record IsPlanOf (s : PlanScope) (states : Reached) (at : ℕ) (plan : Option PlannedPoint)
    : Type 0 where
  pub from : (point : PlannedPoint) → plan ≡ Some point → PlannedFrom s states at point
  pub found :
      (state : State) → states at ≡ Some state → (point : PlannedPoint) × (plan ≡ Some point)
