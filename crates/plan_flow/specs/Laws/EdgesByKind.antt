-- The edge of a kind of a route is that of the plan.
use Rattle.std.proofs.Common.{◌≡◌, ℕ, Bool, true, false, cond, List, [], ◌∷◌, Option, Some, None, sym, ap, subst, ◌∙◌}
use Rattle.std.specs.List.{find}
use Rattle.std.proofs.lemmas.Bool.{true≢false}
use Rattle.plan_flow.specs.Laws.RoutedPlans.{HasOneEffect}
use Rattle.plan_flow.specs.PlanScope.{PlanScope}
use Rattle.plan_flow.specs.Plans.{AllLead, IsValidAt, MadeEdge, Plan, PlannedPoint, state_left}
use Rattle.plan_flow.specs.Written.Routes.{AreEdgeRoutes, IsRoute, Route, RouteEdge, edge_by, is_kind}
use Rattle.plan_flow.specs.declared.edge.Edge.{Edge}
use Rattle.plan_flow.specs.declared.edge.EdgeKind.{EdgeKind}

-- an edge of a route, and what the plan has of it
pub data IsPlannedEdge : Option RouteEdge → Option MadeEdge → Type 0 where
  no_edge : IsPlannedEdge None None
  one_edge : (edge : RouteEdge) (planned : MadeEdge)
      → edge.by ≡ planned.by
      → edge.to ≡ planned.to
      → edge.made ≡ planned.made
      → IsPlannedEdge (Some edge) (Some planned)

found_alike : (plan : Plan) (kind : EdgeKind) (effect : List Edge) (plans : List MadeEdge) (routes : List RouteEdge)
    → AreEdgeRoutes effect plans routes
    → AllLead plan effect plans
    → IsPlannedEdge (find (λ edge. is_kind edge.by kind) routes) (find (λ edge. is_kind edge.by kind) plans)
found_alike plan kind [] [] [] are lead = no_edge
found_alike plan kind [] [] (one ∷ routes) are lead = absurd are
found_alike plan kind [] (made ∷ plans) routes are lead = absurd are
found_alike plan kind (edge ∷ effect) [] routes are lead = absurd are
found_alike plan kind (edge ∷ effect) (made ∷ plans) [] are lead = absurd are
found_alike plan kind (edge ∷ effect) (made ∷ plans) (one ∷ routes) are lead =
    by (is_kind one.by kind) (is_kind made.by kind) (ap (λ (by : EdgeKind). is_kind by kind) same_by)
    (found_alike plan kind effect plans routes are.1 lead.1) where
      same_by : one.by ≡ made.by
      same_by = are.0.by ∙ sym lead.0.same_by

      by : (here there : Bool)
          → here ≡ there
          → IsPlannedEdge (find (λ edge. is_kind edge.by kind) routes) (find (λ edge. is_kind edge.by kind) plans)
          → IsPlannedEdge (cond here (Some one) (find (λ edge. is_kind edge.by kind) routes))
          (cond there (Some made) (find (λ edge. is_kind edge.by kind) plans))
      by true true is rest = one_edge one made same_by (are.0.to ∙ sym lead.0.same_to) are.0.made
      by true false is rest = absurd (true≢false is)
      by false true is rest = absurd (true≢false (sym is))
      by false false is rest = rest

-- The edge of a kind of a valid plan's route is the one that the plan has, or both have none.
pub edge_is_planned : (s : PlanScope) (plan : Plan) (at : ℕ) (point : PlannedPoint) (route : Route) (kind : EdgeKind)
    → HasOneEffect s
    → IsValidAt s plan at point
    → IsRoute s at point route
    → IsPlannedEdge (edge_by route kind) (find (λ edge. is_kind edge.by kind) point.edges)
edge_is_planned s plan at point route kind one valid route_of =
    found_alike plan kind route_of.effect point.edges route.edges route_of.edges leads where
      leads : AllLead plan route_of.effect point.edges
      leads =
          subst (λ (effect : List Edge). AllLead plan effect point.edges)
          (one at (state_left point) valid.edges route_of.effect valid.effect route_of.is_effect) valid.lead
