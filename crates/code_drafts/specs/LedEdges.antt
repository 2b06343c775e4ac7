-- The edges of a point's effect beside those of its plan and of its route.
use Rattle.std.specs.Prelude.{◌≡◌, ℕ, List, [], ◌∷◌, Option, Some, None, option_map}
use Rattle.std.specs.List.{find}
use Rattle.class_tree.specs.Headers.{headers_of}
use Rattle.code_drafts.specs.Emits.{Writing}
use Rattle.code_drafts.specs.Writable.{IsRouteAt, scope}
use Rattle.materialise.specs.MadeCode.{CanMake}
use Rattle.member_link.specs.Machine.Links.{AreLinksOf}
use Rattle.member_link.specs.Machine.Programs.{Links}
use Rattle.plan_flow.specs.Effect.{IsEffect}
use Rattle.plan_flow.specs.Plans.{MadeEdge, PlannedPoint, planned, state_left}
use Rattle.plan_flow.specs.Written.Routes.{AreEdgeRoutes, Route, edge_by, is_kind}
use Rattle.plan_flow.specs.declared.edge.Edge.{Edge}
use Rattle.plan_flow.specs.declared.edge.EdgeKind.{EdgeKind}
use Rattle.virtual_state.specs.States.{State}

-- what the instruction of a reached point leaves, in the state in which it is written
pub record AreEffects (w : Writing) (at : ℕ) (edges : List Edge) : Type 0 where
  pub point : PlannedPoint
  pub reached : planned w.plan at ≡ Some point
  pub effect :
      (links : Links)
      → AreLinksOf (headers_of w.classes) links
      → IsEffect (scope w links) at (state_left point) edges

-- an edge is that of the plan, and its objects can be made on it
pub record IsLed (w : Writing) (edge : Edge) (made : MadeEdge) : Type 0 where
  pub by : made.by ≡ edge.by
  pub to : made.to ≡ edge.to
  pub can : CanMake w.flat edge.to edge.state made.made

abbrev pub AllAreLed : Writing → List Edge → List MadeEdge → Type 0
AllAreLed w [] [] = Unit {0}
AllAreLed w (edge ∷ edges) (made ∷ others) = IsLed w edge made × AllAreLed w edges others
AllAreLed w edges others = ⊥

-- Each edge of the effect is one of the plan, and of the route, in order.
pub record AreLed (w : Writing) (at : ℕ) (edges : List Edge) : Type 0 where
  pub point : PlannedPoint
  pub reached : planned w.plan at ≡ Some point
  pub led : AllAreLed w edges point.edges
  pub routed :
      (links : Links) (route : Route)
      → AreLinksOf (headers_of w.classes) links
      → IsRouteAt w links at route
      → AreEdgeRoutes edges point.edges route.edges

-- the edge of a kind in the plan of a point
abbrev pub planned_edge : Option PlannedPoint → EdgeKind → Option MadeEdge
planned_edge None by = None
planned_edge (Some point) by = find (λ edge. is_kind edge.by by) point.edges

-- The state behind the edge of a kind, in which the edge's objects can be made.
pub record IsStateOn (w : Writing) (at : ℕ) (by : EdgeKind) (state : Option State) : Type 0 where
  pub can :
      (behind : State) (made : MadeEdge)
      → state ≡ Some behind
      → planned_edge (planned w.plan at) by ≡ Some made
      → CanMake w.flat made.to behind made.made
  pub of_route :
      (links : Links) (route : Route)
      → AreLinksOf (headers_of w.classes) links
      → IsRouteAt w links at route
      → option_map (λ edge. edge.state) (edge_by route by) ≡ state
