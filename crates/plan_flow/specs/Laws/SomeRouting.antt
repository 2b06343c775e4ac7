-- A valid plan has routes: the objects of each set can be made in an order.
use Rattle.std.proofs.Common.{◌≡◌, ◌+◌, ℕ, suc, List, [], ◌∷◌, Option, Some, None, refl, sym, subst, arith}
use Rattle.std.specs.List.{AllByRecursion}
use Rattle.flow_code.specs.FlatCode.{point_at}
use Rattle.flow_code.specs.declared.point.Point.{Point}
use Rattle.making_code.specs.Laws.MakeOrders.{some_order}
use Rattle.plan_flow.specs.Effect.{IsEffectIn}
use Rattle.plan_flow.specs.Laws.RoutedPlans.{edge_states}
use Rattle.plan_flow.specs.Must.{open_edges}
use Rattle.plan_flow.specs.PlanScope.{PlanScope}
use Rattle.plan_flow.specs.Plans.{AllLead, IsValid, IsValidAt, MadeEdge, Plan, PlannedPoint, planned, state_left}
use Rattle.plan_flow.specs.Written.Routes.{AreEdgeRoutes, AreRoutes, IsRoute, IsRouted, Route, RouteEdge, Routes}
use Rattle.plan_flow.specs.declared.edge.Edge.{Edge}
use Rattle.virtual_state.specs.States.{IsState}

some_edges : (plan : Plan) (effect : List Edge) (plans : List MadeEdge)
    → AllByRecursion (λ (edge : Edge). IsState edge.state) effect
    → AllLead plan effect plans
    → (routes : List RouteEdge) × AreEdgeRoutes effect plans routes
some_edges plan [] [] states lead = ([], tt)
some_edges plan [] (made ∷ plans) states lead = absurd lead
some_edges plan (edge ∷ effect) [] states lead = absurd lead
some_edges plan (edge ∷ effect) (made ∷ plans) states lead =
    let order = some_order edge.state.objects made.made states.0.acyclic in
    let rest = some_edges plan effect plans states.1 lead.1 in (
      record { by = edge.by; to = edge.to; state = edge.state; made = made.made; order = order.0 } ∷ rest.0,
      (record { by = refl; to = refl; state = refl; made = refl; order = order.1 }, rest.1),
    )

some_route : (s : PlanScope) (plan : Plan) (at : ℕ) (point : PlannedPoint) → IsValidAt s plan at point → (route : Route) × IsRoute s at point route
some_route s plan at point valid =
    let order = some_order point.state.objects point.made valid.is_planned.state.is_state.acyclic in
    let edges = some_edges plan valid.edges point.edges (by (point_at s.flat at) valid.effect) valid.lead in (
      record { state = point.state; made = point.made; order = order.0; edges = edges.0 },
      record { state = refl; made = refl; order = order.1; effect = valid.edges; is_effect = valid.effect; edges = edges.1 },
    ) where
      by : (found : Option Point) → IsEffectIn s at found (state_left point) valid.edges
          → AllByRecursion (λ (edge : Edge). IsState edge.state) valid.edges
      by None none = subst (AllByRecursion (λ (edge : Edge). IsState edge.state)) (sym none) tt
      by (Some one) effect = edge_states s at one (state_left point) (open_edges s at one (state_left point)) valid.edges effect

routes_from : (s : PlanScope) (plan : Plan) (at : ℕ) (rest : Plan)
    → ((number : ℕ) (point : PlannedPoint) → planned rest number ≡ Some point → IsValidAt s plan (at + number) point)
    → (routes : Routes) × AreRoutes s at rest routes
routes_from s plan at [] valid = ([], tt)
routes_from s plan at (None ∷ rest) valid =
    let others = routes_from s plan (suc at) rest
    (λ number point is. subst (λ (n : ℕ). IsValidAt s plan n point) (further number) (valid (suc number) point is)) in
    (None ∷ others.0, others.1) where
      further : (n : ℕ) → at + suc n ≡ suc at + n
      further n = omega arith
routes_from s plan at (Some point ∷ rest) valid =
    let first = some_route s plan at point (subst (λ (n : ℕ). IsValidAt s plan n point) (zeroth at) (valid 0 point refl)) in
    let others = routes_from s plan (suc at) rest
    (λ number one is. subst (λ (n : ℕ). IsValidAt s plan n one) (further number) (valid (suc number) one is)) in
    (Some first.0 ∷ others.0, (first.1, others.1)) where
      zeroth : (n : ℕ) → n + 0 ≡ n
      zeroth n = omega arith

      further : (n : ℕ) → at + suc n ≡ suc at + n
      further n = omega arith

-- Each valid plan has a list of routes.
pub some_routing : (s : PlanScope) (plan : Plan) → IsValid s plan → (routes : Routes) × IsRouted s plan routes
some_routing s plan valid =
    routes_from s plan 0 plan (λ number point is. subst (λ (n : ℕ). IsValidAt s plan n point) (zeroth number) (valid.each number point is)) where
      zeroth : (n : ℕ) → n ≡ 0 + n
      zeroth n = omega arith
