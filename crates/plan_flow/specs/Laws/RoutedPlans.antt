-- What a valid plan says of its routes: along each edge the objects that are made are those by which the target's state has fewer.
use Rattle.std.proofs.Common.{◌≡◌, ◌<◌, ◌+◌, ℕ, zero, suc, Bool, true, false, List, [], ◌∷◌, filter, slice_get, Option, Some, None, IsTrue, refl, sym, ap, subst, ◌∙◌, arith}
use Rattle.std.specs.List.{AllByRecursion}
use Rattle.std.proofs.lemmas.Bool.{and_parts}
use Rattle.std.proofs.lemmas.Option.{none-some, same_Some}
use Rattle.flow_code.specs.FlatCode.{point_at}
use Rattle.flow_code.specs.declared.point.Point.{Point}
use Rattle.making_code.specs.MakeOrder.{IsMakeOrder}
use Rattle.plan_flow.specs.Effect.{AreEdges, IsEffect, IsEffectIn}
use Rattle.plan_flow.specs.Must.{open_edges}
use Rattle.plan_flow.specs.PlanRows.{RowEdge}
use Rattle.plan_flow.specs.PlanScope.{PlanScope}
use Rattle.plan_flow.specs.Plans.{AllLead, IsMadeIn, IsValid, MadeEdge, Plan, PlannedPoint, planned, state_left}
use Rattle.plan_flow.specs.Written.Routes.{AreEdgeRoutes, AreRoutes, IsRoute, IsRouted, Route, RouteEdge, Routes}
use Rattle.plan_flow.specs.declared.edge.Edge.{Edge}
use Rattle.virtual_state.specs.Laws.Orders.{absent, differing_is_closed, differing_is_taken, has_where}
use Rattle.virtual_state.specs.Orders.{IsBelow}
use Rattle.virtual_state.specs.Sites.{differing, has}
use Rattle.virtual_state.specs.States.{IsIncreasing, IsState, State, is_present, sites_of}
use Rattle.virtual_state.specs.Without.{without}

-- ---- sets that are made

all_filtered : (test : ℕ → Bool) (site : ℕ) (sites : List ℕ)
    → AllByRecursion (λ other. site < other) sites
    → AllByRecursion (λ other. site < other) (filter test sites)
all_filtered test site [] all = tt
all_filtered test site (one ∷ sites) all = by (test one) refl (all_filtered test site sites all.1) where
  by : (b : Bool) → test one ≡ b → AllByRecursion (λ other. site < other) (filter test sites)
      → AllByRecursion (λ other. site < other) (filter test (one ∷ sites))
  by true is rest = rw (is) (all.0, rest)
  by false is rest = rw (is) rest

increasing_filtered : (test : ℕ → Bool) (sites : List ℕ) → IsIncreasing sites → IsIncreasing (filter test sites)
increasing_filtered test [] order = tt
increasing_filtered test (site ∷ sites) order = by (test site) refl (increasing_filtered test sites order.1) where
  by : (b : Bool) → test site ≡ b → IsIncreasing (filter test sites) → IsIncreasing (filter test (site ∷ sites))
  by true is rest = rw (is) (all_filtered test site sites order.0, rest)
  by false is rest = rw (is) rest

-- the sites by which two states differ can be made in the lower one
pub differing_is_made : (state other : State) → IsState state → IsBelow state other → IsMadeIn state (differing state other)
differing_is_made state other is below = record {
  order = increasing_filtered (absent other) (sites_of state.objects) is.order;
  present = λ site among.
      (and_parts (is_present state.objects site) (absent other site) (sym (has_where (absent other) state.objects site) ∙ among)).0;
  closed = differing_is_closed state other is below;
}

-- ---- routes of a plan

-- a route is that of a reached point
pub record IsRouteOf (s : PlanScope) (plan : Plan) (number place : ℕ) (route : Route) : Type 0 where
  pub point : PlannedPoint
  pub reached : planned plan number ≡ Some point
  pub is : IsRoute s place point route

pub route_of : (s : PlanScope) (at : ℕ) (plan : Plan) (routes : Routes) (number : ℕ) (route : Route)
    → AreRoutes s at plan routes
    → slice_get routes number ≡ Some (Some route)
    → IsRouteOf s plan number (at + number) route
route_of s at [] [] number route are is = absurd (none-some (Some route) is)
route_of s at [] (one ∷ routes) number route are is = absurd are
route_of s at (None ∷ plan) [] number route are is = absurd are
route_of s at (Some point ∷ plan) [] number route are is = absurd are
route_of s at (None ∷ plan) (Some one ∷ routes) number route are is = absurd are
route_of s at (Some point ∷ plan) (None ∷ routes) number route are is = absurd are
route_of s at (None ∷ plan) (None ∷ routes) zero route are is = absurd (none-some route (same_Some None (Some route) is))
route_of s at (None ∷ plan) (None ∷ routes) (suc number) route are is =
    let rest = route_of s (suc at) plan routes number route are is in
    record { point = rest.point; reached = rest.reached; is = subst (λ (n : ℕ). IsRoute s n rest.point route) (omega arith) rest.is }
route_of s at (Some point ∷ plan) (Some one ∷ routes) zero route are is = record {
  point = point;
  reached = refl;
  is = subst (λ (n : ℕ). IsRoute s n point route) (omega arith)
      (subst (IsRoute s at point) (same_Some one route (same_Some (Some one) (Some route) is)) are.0);
}
route_of s at (Some point ∷ plan) (Some one ∷ routes) (suc number) route are is =
    let rest = route_of s (suc at) plan routes number route are.1 is in
    record { point = rest.point; reached = rest.reached; is = subst (λ (n : ℕ). IsRoute s n rest.point route) (omega arith) rest.is }

-- and a reached point has one
pub record HasRoute (s : PlanScope) (routes : Routes) (number place : ℕ) (point : PlannedPoint) : Type 0 where
  pub route : Route
  pub is_route : slice_get routes number ≡ Some (Some route)
  pub is : IsRoute s place point route

pub route_at : (s : PlanScope) (at : ℕ) (plan : Plan) (routes : Routes) (number : ℕ) (point : PlannedPoint)
    → AreRoutes s at plan routes
    → planned plan number ≡ Some point
    → HasRoute s routes number (at + number) point
route_at s at [] [] number point are is = absurd (none-some point is)
route_at s at [] (one ∷ routes) number point are is = absurd are
route_at s at (None ∷ plan) [] number point are is = absurd are
route_at s at (Some first ∷ plan) [] number point are is = absurd are
route_at s at (None ∷ plan) (Some one ∷ routes) number point are is = absurd are
route_at s at (Some first ∷ plan) (None ∷ routes) number point are is = absurd are
route_at s at (None ∷ plan) (None ∷ routes) zero point are is = absurd (none-some point is)
route_at s at (None ∷ plan) (None ∷ routes) (suc number) point are is =
    let rest = route_at s (suc at) plan routes number point are is in
    record { route = rest.route; is_route = rest.is_route; is = subst (λ (n : ℕ). IsRoute s n point rest.route) (omega arith) rest.is }
route_at s at (Some first ∷ plan) (Some one ∷ routes) zero point are is = record {
  route = one;
  is_route = refl;
  is = subst (λ (n : ℕ). IsRoute s n point one) (omega arith)
      (subst (λ (found : PlannedPoint). IsRoute s at found one) (same_Some first point is) are.0);
}
route_at s at (Some first ∷ plan) (Some one ∷ routes) (suc number) point are is =
    let rest = route_at s (suc at) plan routes number point are.1 is in
    record { route = rest.route; is_route = rest.is_route; is = subst (λ (n : ℕ). IsRoute s n point rest.route) (omega arith) rest.is }

-- ---- edges

-- An edge of a route: the target is reached, in the state that is left where the objects of the edge are made.
pub record EdgeLeads (s : PlanScope) (plan : Plan) (edge : RouteEdge) : Type 0 where
  pub target : PlannedPoint
  pub reached : planned plan edge.to ≡ Some target
  pub is_state : IsState edge.state
  pub is_made : IsMadeIn edge.state edge.made
  pub is_order : IsMakeOrder edge.state.objects edge.made edge.order
  pub left : target.state ≡ without edge.state (has edge.made)

edge_leads : (s : PlanScope) (plan : Plan) (effect : List Edge) (plans : List MadeEdge) (routes : List RouteEdge) (number : ℕ)
    (edge : RouteEdge)
    → AllByRecursion (λ (one : Edge). IsState one.state) effect
    → AreEdgeRoutes effect plans routes
    → AllLead plan effect plans
    → slice_get routes number ≡ Some edge
    → EdgeLeads s plan edge
edge_leads s plan [] [] [] number edge states are lead is = absurd (none-some edge is)
edge_leads s plan [] [] (one ∷ routes) number edge states are lead is = absurd are
edge_leads s plan [] (made ∷ plans) routes number edge states are lead is = absurd are
edge_leads s plan (first ∷ effect) [] routes number edge states are lead is = absurd are
edge_leads s plan (first ∷ effect) (made ∷ plans) [] number edge states are lead is = absurd are
edge_leads s plan (first ∷ effect) (made ∷ plans) (one ∷ routes) zero edge states are lead is =
    subst (EdgeLeads s plan) (same_Some one edge is) (record {
      target = lead.0.target;
      reached = ap (planned plan) are.0.to ∙ lead.0.reached;
      is_state = subst IsState (sym are.0.state) states.0;
      is_made =
          subst (IsMadeIn one.state) (sym (are.0.made ∙ lead.0.same_made))
          (subst (λ (state : State). IsMadeIn state (differing first.state lead.0.target.state)) (sym are.0.state)
          (differing_is_made first.state lead.0.target.state states.0 lead.0.below));
      is_order =
          subst (λ (state : State). IsMakeOrder state.objects one.made one.order) (sym are.0.state)
          (subst (λ (sites : List ℕ). IsMakeOrder first.state.objects sites one.order) (sym are.0.made) are.0.order);
      left =
          differing_is_taken first.state lead.0.target.state states.0 lead.0.below
          ∙ ap (λ (state : State). without state (has (differing first.state lead.0.target.state))) (sym are.0.state)
          ∙ ap (λ (sites : List ℕ). without one.state (has sites)) (sym (are.0.made ∙ lead.0.same_made));
    })
edge_leads s plan (first ∷ effect) (made ∷ plans) (one ∷ routes) (suc number) edge states are lead is =
    edge_leads s plan effect plans routes number edge states.1 are.1 lead.1 is

-- the states behind edges are states
pub edge_states : (s : PlanScope) (at : ℕ) (point : Point) (before : State) (rows : List RowEdge) (effect : List Edge)
    → AreEdges s point at before rows effect
    → AllByRecursion (λ (one : Edge). IsState one.state) effect
edge_states s at point before [] [] are = tt
edge_states s at point before [] (edge ∷ effect) are = absurd are
edge_states s at point before (row ∷ rows) [] are = absurd are
edge_states s at point before (row ∷ rows) (edge ∷ effect) are =
    (are.2.is_state, edge_states s at point before rows effect are.3)

-- each state has one list of edges: a law of plans (`effect_grows`)
abbrev pub HasOneEffect : PlanScope → Type 0
HasOneEffect s =
    (at : ℕ) (state : State) (edges also : List Edge)
    → IsEffect s at state edges
    → IsEffect s at state also
    → edges ≡ also

-- Each edge of a reached point's route leads so.
pub leads_of : (s : PlanScope) (plan : Plan) (routes : Routes) (at : ℕ) (point : Point) (route : Route) (number : ℕ) (edge : RouteEdge)
    → HasOneEffect s
    → IsValid s plan
    → IsRouted s plan routes
    → point_at s.flat at ≡ Some point
    → slice_get routes at ≡ Some (Some route)
    → slice_get route.edges number ≡ Some edge
    → EdgeLeads s plan edge
leads_of s plan routes at point route number edge one valid routed is_point is_route is_edge =
    edge_leads s plan found.is.effect found.point.edges route.edges number edge states found.is.edges leads is_edge where
      found : IsRouteOf s plan at at route
      found =
          let all = route_of s 0 plan routes at route routed is_route in
          record { point = all.point; reached = all.reached; is = subst (λ (n : ℕ). IsRoute s n all.point route) (omega arith) all.is }

      states : AllByRecursion (λ (one : Edge). IsState one.state) found.is.effect
      states =
          edge_states s at point (state_left found.point) (open_edges s at point (state_left found.point)) found.is.effect
          (subst (λ (at_it : Option Point). IsEffectIn s at at_it (state_left found.point) found.is.effect) is_point found.is.is_effect)

      leads : AllLead plan found.is.effect found.point.edges
      leads =
          let here = valid.each at found.point found.reached in
          subst (λ (effect : List Edge). AllLead plan effect found.point.edges)
          (one at (state_left found.point) here.edges found.is.effect here.effect found.is.is_effect) here.lead
