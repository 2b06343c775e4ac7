-- The edges of a point as its plan and its route have them.
use Rattle.std.proofs.Common.{◌≡◌, ℕ, Bool, true, false, List, [], ◌∷◌, Option, Some, None, option_and_then, option_map, refl, sym, ap, subst, ◌∙◌}
use Rattle.std.specs.List.{find}
use Rattle.std.proofs.lemmas.Option.{none-some, same_Some}
use Rattle.class_tree.specs.Headers.{headers_of}
use Rattle.code_drafts.specs.Emits.{Writing}
use Rattle.code_drafts.specs.Writable.{IsRouteAt, IsWritable, scope}
use Rattle.flow_code.specs.FlatCode.{point_at}
use Rattle.flow_code.specs.declared.point.Point.{Point}
use Rattle.member_link.specs.Machine.Links.{AreLinksOf}
use Rattle.member_link.specs.Machine.Programs.{Links}
use Rattle.plan_flow.specs.Effect.{AreEdges, IsEffectIn}
use Rattle.plan_flow.specs.Must.{open_edges}
use Rattle.plan_flow.specs.PlanEdges.{made_edge_meant}
use Rattle.plan_flow.specs.PlanRows.{RowEdge}
use Rattle.plan_flow.specs.PlanScope.{PlanScope}
use Rattle.plan_flow.specs.Plans.{AllLead, MadeEdge, Plan, planned, state_left}
use Rattle.plan_flow.specs.Written.Routes.{AreEdgeRoutes, Route, RouteEdge, edge_by, is_kind}
use Rattle.plan_flow.specs.declared.edge.Edge.{Edge}
use Rattle.plan_flow.specs.declared.edge.EdgeKind.{EdgeKind}
use Rattle.plan_flow.specs.declared.plan.PlanEdge.{PlanEdge}
use Rattle.virtual_state.specs.States.{State}

-- an edge of a plan and one of a route lead to one point, and the same objects are made on both
pub data AreSameEnds : Option MadeEdge → Option RouteEdge → Type 0 where
  no_edge : AreSameEnds None None
  same_edge : (made : MadeEdge) (edge : RouteEdge) → edge.to ≡ made.to → edge.made ≡ made.made → AreSameEnds (Some made) (Some edge)

abbrev HaveEnds : List MadeEdge → List RouteEdge → Type 0
HaveEnds [] [] = Unit {0}
HaveEnds (made ∷ others) (edge ∷ edges) = (edge.by ≡ made.by) × (edge.to ≡ made.to) × (edge.made ≡ made.made) × HaveEnds others edges
HaveEnds others edges = ⊥

abbrev pub in_plan : EdgeKind → List MadeEdge → Option MadeEdge
in_plan by edges = find (λ edge. is_kind edge.by by) edges

abbrev in_route : EdgeKind → List RouteEdge → Option RouteEdge
in_route by edges = find (λ edge. is_kind edge.by by) edges

find_step : (by : EdgeKind) (made : MadeEdge) (others : List MadeEdge) (edge : RouteEdge) (edges : List RouteEdge) (test : Bool)
    → is_kind edge.by by ≡ test
    → is_kind made.by by ≡ test
    → edge.to ≡ made.to
    → edge.made ≡ made.made
    → AreSameEnds (in_plan by others) (in_route by edges)
    → AreSameEnds (in_plan by (made ∷ others)) (in_route by (edge ∷ edges))
find_step by made others edge edges true is also to same rest = rw (is, also) (same_edge made edge to same)
find_step by made others edge edges false is also to same rest = rw (is, also) rest

found_ends : (by : EdgeKind) (made : List MadeEdge) (edges : List RouteEdge) → HaveEnds made edges → AreSameEnds (in_plan by made) (in_route by edges)
found_ends by [] [] have = no_edge
found_ends by [] (edge ∷ edges) have = absurd have
found_ends by (made ∷ others) [] have = absurd have
found_ends by (made ∷ others) (edge ∷ edges) have =
    find_step by made others edge edges (is_kind edge.by by) refl (ap (λ (b : EdgeKind). is_kind b by) (sym have.0)) have.1 have.2 (found_ends by others edges have.3)

-- ---- the edges of a valid plan and of a route

ends_same : (s : PlanScope) (point : Point) (at : ℕ) (before : State) (plan : Plan) (rows : List RowEdge) (edges also : List Edge) (made : List MadeEdge) (routes : List RouteEdge)
    → AreEdges s point at before rows edges
    → AreEdges s point at before rows also
    → AllLead plan edges made
    → AreEdgeRoutes also made routes
    → HaveEnds made routes
ends_same s point at before plan [] [] [] [] [] one other lead are = tt
ends_same s point at before plan [] [] [] [] (route ∷ routes) one other lead are = absurd are
ends_same s point at before plan [] [] [] (first ∷ made) routes one other lead are = absurd lead
ends_same s point at before plan [] [] (edge ∷ also) made routes one other lead are = absurd other
ends_same s point at before plan [] (edge ∷ edges) also made routes one other lead are = absurd one
ends_same s point at before plan (row ∷ rows) [] also made routes one other lead are = absurd one
ends_same s point at before plan (row ∷ rows) (edge ∷ edges) [] made routes one other lead are = absurd other
ends_same s point at before plan (row ∷ rows) (edge ∷ edges) (twin ∷ also) [] routes one other lead are = absurd lead
ends_same s point at before plan (row ∷ rows) (edge ∷ edges) (twin ∷ also) (first ∷ made) [] one other lead are = absurd are
ends_same s point at before plan (row ∷ rows) (edge ∷ edges) (twin ∷ also) (first ∷ made) (route ∷ routes) one other lead are = (
  are.0.by ∙ other.0 ∙ sym one.0 ∙ sym lead.0.same_by,
  are.0.to ∙ other.1 ∙ sym one.1 ∙ sym lead.0.same_to,
  are.0.made,
  ends_same s point at before plan rows edges also made routes one.3 other.3 lead.1 are.1,
)

none_ends : (plan : Plan) (made : List MadeEdge) (routes : List RouteEdge) → AllLead plan [] made → AreEdgeRoutes [] made routes → HaveEnds made routes
none_ends plan [] [] lead are = tt
none_ends plan [] (route ∷ routes) lead are = absurd are
none_ends plan (first ∷ made) routes lead are = absurd lead

effect_ends : (s : PlanScope) (at : ℕ) (before : State) (plan : Plan) (found : Option Point) (edges also : List Edge) (made : List MadeEdge) (routes : List RouteEdge)
    → IsEffectIn s at found before edges
    → IsEffectIn s at found before also
    → AllLead plan edges made
    → AreEdgeRoutes also made routes
    → HaveEnds made routes
effect_ends s at before plan None edges also made routes one other lead are =
    none_ends plan made routes (subst (λ (list : List Edge). AllLead plan list made) one lead) (subst (λ (list : List Edge). AreEdgeRoutes list made routes) other are)
effect_ends s at before plan (Some point) edges also made routes one other lead are =
    ends_same s point at before plan (open_edges s at point before) edges also made routes one other lead are

-- The edge of a kind, in the plan and in the route of a point.
pub same_ends : (w : Writing) (links : Links) (at : ℕ) (route : Route) (by : EdgeKind)
    → IsWritable w
    → AreLinksOf (headers_of w.classes) links
    → IsRouteAt w links at route
    → AreSameEnds (option_and_then (λ point. in_plan by point.edges) (planned w.plan at)) (edge_by route by)
same_ends w links at route by writable is_links here =
    let valid = (writable.valid links is_links).each at here.point here.reached in
    let have : HaveEnds here.point.edges route.edges =
    effect_ends (scope w links) at (state_left here.point) w.plan (point_at w.flat at) valid.edges here.is.effect here.point.edges route.edges valid.effect here.is.is_effect
    valid.lead here.is.edges in
    rw here.reached (found_ends by here.point.edges route.edges have)

-- ---- what the code finds

-- there is an edge to a point, on which these objects are made
pub record IsEnd (found : Option RouteEdge) (to : ℕ) (made : List ℕ) : Type 0 where
  pub edge : RouteEdge
  pub is_found : found ≡ Some edge
  pub same_to : edge.to ≡ to
  pub same_made : edge.made ≡ made

some_of : (found : Option MadeEdge) (also : Option RouteEdge) (made : MadeEdge) → AreSameEnds found also → found ≡ Some made → IsEnd also made.to made.made
some_of None None made no_edge is = absurd (none-some made is)
some_of None (Some edge) made same is = elim same [ ]
some_of (Some first) None made same is = elim same [ ]
some_of (Some first) (Some edge) made (same_edge _ _ to same) is =
    subst (λ (m : MadeEdge). IsEnd (Some edge) m.to m.made) (same_Some first made is) (record { edge = edge; is_found = refl; same_to = to; same_made = same })

none_of : (found : Option MadeEdge) (also : Option RouteEdge) → AreSameEnds found also → found ≡ None → also ≡ None
none_of None None no_edge is = refl
none_of None (Some edge) same is = elim same [ ]
none_of (Some first) None same is = elim same [ ]
none_of (Some first) (Some edge) (same_edge _ _ to same) is = absurd (none-some first (sym is))

-- by what the plan gives
pub end_found : (found : Option MadeEdge) (given : Option PlanEdge) (also : Option RouteEdge) (edge : PlanEdge)
    → option_map made_edge_meant given ≡ found
    → given ≡ Some edge
    → AreSameEnds found also
    → IsEnd also edge.to edge.made.now
end_found found given also edge meant is same = some_of found also (made_edge_meant edge) same (sym meant ∙ ap (option_map made_edge_meant) is)

pub no_end_found : (found : Option MadeEdge) (given : Option PlanEdge) (also : Option RouteEdge)
    → option_map made_edge_meant given ≡ found
    → given ≡ None
    → AreSameEnds found also
    → also ≡ None
no_end_found found given also meant is same = none_of found also same (sym meant ∙ ap (option_map made_edge_meant) is)
