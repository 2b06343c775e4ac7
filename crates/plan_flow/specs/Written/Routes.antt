-- A plan with all that code is written from: of each reached point its state, what is made there and in which order, and its edges with
-- theirs. It is this project's profile.
use Rattle.std.specs.Prelude.{◌≡◌, ◌==◌, ◌&&◌, ℕ, suc, Bool, false, true, List, [], ◌∷◌, Option, Some, None}
use Rattle.std.specs.List.{find}
use Rattle.making_code.specs.MakeOrder.{IsMakeOrder}
use Rattle.plan_flow.specs.Effect.{IsEffect}
use Rattle.plan_flow.specs.PlanScope.{PlanScope}
use Rattle.plan_flow.specs.Plans.{MadeEdge, Plan, PlannedPoint, state_left}
use Rattle.plan_flow.specs.declared.edge.Edge.{Edge}
use Rattle.plan_flow.specs.declared.edge.EdgeKind.{EdgeKind}
use Rattle.plan_flow.specs.declared.edge.EdgeKind.TheVariants as edges
use Rattle.virtual_state.specs.States.{State}
use Rattle.virtual_state.specs.Without.{without}

-- an edge: how, and to which point; the state behind it; the sites whose objects are made on it, by number and in the order of making
pub record RouteEdge : Type 0 where
  pub by : EdgeKind
  pub to : ℕ
  pub state : State
  pub made : List ℕ
  pub order : List ℕ

-- a point: the state before it; the sites whose objects are made before its instruction; and its edges
pub record Route : Type 0 where
  pub state : State
  pub made : List ℕ
  pub order : List ℕ
  pub edges : List RouteEdge

-- one for each point, if it is reached
abbrev pub Routes : Type 0
Routes = List (Option Route)

-- ---- the routes of a plan

pub record IsEdgeRoute (edge : Edge) (planned : MadeEdge) (route : RouteEdge) : Type 0 where
  pub by : route.by ≡ edge.by
  pub to : route.to ≡ edge.to
  pub state : route.state ≡ edge.state
  pub made : route.made ≡ planned.made
  pub order : IsMakeOrder edge.state.objects planned.made route.order

abbrev pub AreEdgeRoutes : List Edge → List MadeEdge → List RouteEdge → Type 0
AreEdgeRoutes [] [] [] = Unit {0}
AreEdgeRoutes (edge ∷ edges) (planned ∷ plans) (route ∷ routes) =
    IsEdgeRoute edge planned route × AreEdgeRoutes edges plans routes
AreEdgeRoutes edges plans routes = ⊥

pub record IsRoute (s : PlanScope) (at : ℕ) (point : PlannedPoint) (route : Route) : Type 0 where
  pub state : route.state ≡ point.state
  pub made : route.made ≡ point.made
  pub order : IsMakeOrder point.state.objects point.made route.order
  pub effect : List Edge
  pub is_effect : IsEffect s at (state_left point) effect
  pub edges : AreEdgeRoutes effect point.edges route.edges

-- from a point's number on
abbrev pub AreRoutes : PlanScope → ℕ → Plan → Routes → Type 0
AreRoutes s at [] [] = Unit {0}
AreRoutes s at (None ∷ plan) (None ∷ routes) = AreRoutes s (suc at) plan routes
AreRoutes s at (Some point ∷ plan) (Some route ∷ routes) =
    IsRoute s at point route × AreRoutes s (suc at) plan routes
AreRoutes s at plan routes = ⊥

-- The routes of a plan of a flat code.
abbrev pub IsRouted : PlanScope → Plan → Routes → Type 0
IsRouted s plan routes = AreRoutes s 0 plan routes

-- ---- edges by kind

abbrev pub is_kind : EdgeKind → EdgeKind → Bool
is_kind edges.Next edges.Next = true
is_kind (edges.Jump one) (edges.Jump other) = one == other
is_kind (edges.Handler one) (edges.Handler other) = one == other
is_kind one other = false

-- the edge of a kind, if control may take it
abbrev pub edge_by : Route → EdgeKind → Option RouteEdge
edge_by route kind = find (λ edge. is_kind edge.by kind) route.edges
