-- A plan has one list of routes: objects are made in one order, and an instruction leaves one list of edges.
use Rattle.std.proofs.Common.{◌≡◌, ◌≤◌, ◌==◌, ℕ, suc, not, List, [], ◌∷◌, Some, None, refl, sym, ap, subst, ◌∙◌, arith}
use Rattle.std.proofs.lemmas.Bool.{false≢true}
use Rattle.std.specs.List.{filter}
use Rattle.making_code.specs.MakeOrder.{IsMakeOrder, all_made, one_next}
use Rattle.plan_flow.specs.Effect.{IsEffect}
use Rattle.plan_flow.specs.PlanScope.{PlanScope}
use Rattle.plan_flow.specs.Plans.{MadeEdge, Plan, PlannedPoint, state_left}
use Rattle.plan_flow.specs.Written.Routes.{AreEdgeRoutes, AreRoutes, IsEdgeRoute, IsRoute, IsRouted, Route, RouteEdge, Routes}
use Rattle.plan_flow.specs.declared.edge.Edge.{Edge}
use Rattle.plan_flow.specs.declared.edge.EdgeKind.{EdgeKind}
use Rattle.virtual_state.specs.States.{State}
use Rattle.virtual_state.specs.declared.slot.VObject.{VObject}

-- ---- the order of making

pub order_is_one : (objects : List VObject) (left order other : List ℕ) → IsMakeOrder objects left order → IsMakeOrder objects left other
    → order ≡ other
order_is_one objects left order other all_made all_made = refl
order_is_one objects left order other all_made (one_next _ _ site next more) = absurd (false≢true next.left_over)
order_is_one objects left order other (one_next _ _ site next more) all_made = absurd (false≢true next.left_over)
order_is_one objects left order other (one_next _ rest site next more) (one_next _ rest_also also next_also more_also) =
    let low : site ≤ also = next.least also next_also.left_over next_also.ready in
    let high : also ≤ site = next_also.least site next.left_over next.ready in
    let same : site ≡ also = omega (arith, low, high) in
    let behind = subst (λ (n : ℕ). IsMakeOrder objects (filter (λ (x : ℕ). not (x == n)) left) rest_also) (sym same) more_also in
    let rests : rest ≡ rest_also = order_is_one objects (filter (λ (x : ℕ). not (x == site)) left) rest rest_also more behind in
    cc (same, rests)

-- ---- routes

abbrev edge_of : EdgeKind → ℕ → State → List ℕ → List ℕ → RouteEdge
edge_of by to state made order = record { by = by; to = to; state = state; made = made; order = order }

edge_parts : (by by_also : EdgeKind) → by ≡ by_also → (to to_also : ℕ) → to ≡ to_also → (state state_also : State) → state ≡ state_also
    → (made made_also : List ℕ) → made ≡ made_also
    → (order order_also : List ℕ) → order ≡ order_also
    → edge_of by to state made order ≡ edge_of by_also to_also state_also made_also order_also
edge_parts by by_also a to to_also b state state_also c made made_also d order order_also e = rw a (rw b (rw c (rw d (rw e refl))))

abbrev route_of : State → List ℕ → List ℕ → List RouteEdge → Route
route_of state made order edges = record { state = state; made = made; order = order; edges = edges }

route_parts : (state state_also : State) → state ≡ state_also → (made made_also : List ℕ) → made ≡ made_also
    → (order order_also : List ℕ) → order ≡ order_also
    → (edges edges_also : List RouteEdge) → edges ≡ edges_also
    → route_of state made order edges ≡ route_of state_also made_also order_also edges_also
route_parts state state_also a made made_also b order order_also c edges edges_also d = rw a (rw b (rw c (rw d refl)))

edge_is_one : (edge : Edge) (planned : MadeEdge) (route other : RouteEdge) → IsEdgeRoute edge planned route → IsEdgeRoute edge planned other
    → route ≡ other
edge_is_one edge planned route other one also =
    let by : route.by ≡ other.by = one.by ∙ sym also.by in
    let to : route.to ≡ other.to = one.to ∙ sym also.to in
    let state : route.state ≡ other.state = one.state ∙ sym also.state in
    let made : route.made ≡ other.made = one.made ∙ sym also.made in
    let order : route.order ≡ other.order = order_is_one edge.state.objects planned.made route.order other.order one.order also.order in
    edge_parts route.by other.by by route.to other.to to route.state other.state state route.made other.made made route.order other.order order

edges_are_one : (edges : List Edge) (planned : List MadeEdge) (routes others : List RouteEdge) → AreEdgeRoutes edges planned routes
    → AreEdgeRoutes edges planned others
    → routes ≡ others
edges_are_one [] [] [] [] one also = refl
edges_are_one [] [] [] (other ∷ others) one also = absurd also
edges_are_one [] [] (route ∷ routes) others one also = absurd one
edges_are_one [] (plan ∷ planned) routes others one also = absurd one
edges_are_one (edge ∷ edges) [] routes others one also = absurd one
edges_are_one (edge ∷ edges) (plan ∷ planned) [] others one also = absurd one
edges_are_one (edge ∷ edges) (plan ∷ planned) (route ∷ routes) [] one also = absurd also
edges_are_one (edge ∷ edges) (plan ∷ planned) (route ∷ routes) (other ∷ others) one also =
    let first : route ≡ other = edge_is_one edge plan route other one.0 also.0 in
    let rest : routes ≡ others = edges_are_one edges planned routes others one.1 also.1 in
    cc (first, rest)

module _ (s : PlanScope) (effect_is_one : (at : ℕ) (state : State) (edges also : List Edge) → IsEffect s at state edges → IsEffect s at state also → edges ≡ also) where
  route_is_one : (at : ℕ) (point : PlannedPoint) (route other : Route) → IsRoute s at point route → IsRoute s at point other → route ≡ other
  route_is_one at point route other one also =
      let state : route.state ≡ other.state = one.state ∙ sym also.state in
      let made : route.made ≡ other.made = one.made ∙ sym also.made in
      let order : route.order ≡ other.order = order_is_one point.state.objects point.made route.order other.order one.order also.order in
      let effects : also.effect ≡ one.effect = effect_is_one at (state_left point) also.effect one.effect also.is_effect one.is_effect in
      let edges : route.edges ≡ other.edges =
      edges_are_one one.effect point.edges route.edges other.edges one.edges
      (subst (λ (x : List Edge). AreEdgeRoutes x point.edges other.edges) effects also.edges) in
      route_parts route.state other.state state route.made other.made made route.order other.order order route.edges other.edges edges

  routes_from : (at : ℕ) (plan : Plan) (routes others : Routes) → AreRoutes s at plan routes → AreRoutes s at plan others → routes ≡ others
  routes_from at [] [] [] one also = refl
  routes_from at [] [] (other ∷ others) one also = absurd also
  routes_from at [] (route ∷ routes) others one also = absurd one
  routes_from at (None ∷ plan) [] others one also = absurd one
  routes_from at (None ∷ plan) (None ∷ routes) [] one also = absurd also
  routes_from at (None ∷ plan) (None ∷ routes) (None ∷ others) one also = ap (λ (rest : Routes). None ∷ rest) (routes_from (suc at) plan routes others one also)
  routes_from at (None ∷ plan) (None ∷ routes) (Some other ∷ others) one also = absurd also
  routes_from at (None ∷ plan) (Some route ∷ routes) others one also = absurd one
  routes_from at (Some point ∷ plan) [] others one also = absurd one
  routes_from at (Some point ∷ plan) (None ∷ routes) others one also = absurd one
  routes_from at (Some point ∷ plan) (Some route ∷ routes) [] one also = absurd also
  routes_from at (Some point ∷ plan) (Some route ∷ routes) (None ∷ others) one also = absurd also
  routes_from at (Some point ∷ plan) (Some route ∷ routes) (Some other ∷ others) one also =
      let first : route ≡ other = route_is_one at point route other one.0 also.0 in
      let rest : routes ≡ others = routes_from (suc at) plan routes others one.1 also.1 in
      cc (first, rest)

  -- A plan has one list of routes.
  pub routing_is_one : (plan : Plan) (routes others : Routes) → IsRouted s plan routes → IsRouted s plan others → routes ≡ others
  routing_is_one plan routes others one also = routes_from 0 plan routes others one also
