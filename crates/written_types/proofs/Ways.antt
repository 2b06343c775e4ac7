-- Along the ways that a valid plan leads each state fits the types: by induction on how a point is led to.
use Rattle.std.proofs.Common.{◌≡◌, ◌+◌, ℕ, zero, suc, Bool, true, false, List, [], ◌∷◌, Option, Some, None, IsTrue, is_some, refl, sym, ap, subst, ◌∙◌, inl, slice_get, arith}
use Rattle.std.specs.List.{AllByRecursion}
use Rattle.std.specs.Option.{option_flatten}
use Rattle.std.proofs.lemmas.Bool.{false≢true}
use Rattle.std.proofs.lemmas.Option.{none-some, same_Some}
use Rattle.class_model.specs.Checks.{AllHold}
use Rattle.class_model.specs.declared.instr.Instr.TheVariants.{Invoke}
use Rattle.class_tree.specs.Headers.{Classes, IsThere, headers_of}
use Rattle.class_tree.specs.Hierarchy.{IsHierarchy}
use Rattle.class_tree.specs.Steps.{step_checks}
use Rattle.expanded_code.specs.CandidateSites.{HasCandidateSites, IsSite}
use Rattle.expanded_code.specs.ExpandAnswers.{is_initialiser}
use Rattle.flow_code.specs.FlatCode.{FlatCode, point_at}
use Rattle.flow_code.specs.declared.point.FlatInstr.{FlatInstr}
use Rattle.flow_code.specs.declared.point.FlatInstr.TheVariants.{Of, NullTest}
use Rattle.flow_code.specs.declared.point.Point.{Point}
use Rattle.flow_code.specs.declared.point.Site.{Site}
use Rattle.member_link.specs.Laws.FolderClasses.{class_of_folder}
use Rattle.member_link.specs.Machine.Links.{AreLinksOf}
use Rattle.member_link.specs.Machine.Programs.{Links}
use Rattle.member_link.specs.Scope.{Scope, is_init}
use Rattle.plan_flow.specs.Effect.{IsEffect}
use Rattle.plan_flow.specs.Must.{AsksFor, IsMustIn, IsMustOf, by_position, row_of_point}
use Rattle.plan_flow.specs.PlanRows.{Position}
use Rattle.plan_flow.specs.PlanScope.{PlanScope, scope_of}
use Rattle.plan_flow.specs.PlanTable.{positions}
use Rattle.plan_flow.specs.Plans.{AllLead, IsLedTo, IsValid, LeadsTo, MadeEdge, Plan, PlannedPoint, at_start, over_edge, planned, state_left}
use Rattle.plan_flow.specs.Written.Blocks.{state_written}
use Rattle.plan_flow.specs.Written.Routes.{AreEdgeRoutes, AreRoutes, IsRoute, IsRouted, Route, RouteEdge, Routes}
use Rattle.plan_flow.specs.declared.edge.Edge.{Edge}
use Rattle.same_runs.specs.ReadyCode.{IsReadyCode, IsReadyItem}
use Rattle.virtual_state.specs.Orders.{IsBelow}
use Rattle.virtual_state.specs.Sites.{has}
use Rattle.virtual_state.specs.States.{State}
use Rattle.written_types.proofs.Arrivals.{fits_point, fits_types, made_fits}
use Rattle.written_types.proofs.Edges.{PointKnown, effect_fits}
use Rattle.written_types.proofs.ObjectInits.{object_init}
use Rattle.written_types.proofs.RowTable.{CallsObjectInit}
use Rattle.written_types.proofs.SiteFields.{SitesKnown}
use Rattle.written_types.proofs.Standing.{all_at}
use Rattle.written_types.proofs.Starts.{scope_headers, start_fits}
use Rattle.written_types.specs.FitsTypes.{FitsRoutes, FitsTypes, is_reached}

-- ---- lists side by side

-- an edge of a plan, with the state behind it
pub record LedEdge (plan : Plan) (P : Edge → Type 0) (made : MadeEdge) : Type 0 where
  pub edge : Edge
  pub leads : LeadsTo plan edge made
  pub has_it : P edge

pub led_edge : (plan : Plan) (P : Edge → Type 0) (edges : List Edge) (all : List MadeEdge) → AllLead plan edges all → AllByRecursion P edges
    → (number : ℕ) (made : MadeEdge) → slice_get all number ≡ Some made
    → LedEdge plan P made
led_edge plan P [] [] lead have number made is = absurd (none-some made is)
led_edge plan P [] (one ∷ all) lead have number made is = absurd lead
led_edge plan P (edge ∷ edges) [] lead have number made is = absurd lead
led_edge plan P (edge ∷ edges) (one ∷ all) lead have zero made is =
    record { edge = edge; leads = subst (LeadsTo plan edge) (same_Some one made is) lead.0; has_it = have.0 }
led_edge plan P (edge ∷ edges) (one ∷ all) lead have (suc number) made is = led_edge plan P edges all lead.1 have.1 number made is

-- an edge of a route
record RoutedEdge (P : Edge → Type 0) (route : RouteEdge) : Type 0 where
  edge : Edge
  same_to : route.to ≡ edge.to
  same_state : route.state ≡ edge.state
  has_it : P edge

routed_edge : (P : Edge → Type 0) (edges : List Edge) (all : List MadeEdge) (routes : List RouteEdge) → AreEdgeRoutes edges all routes
    → AllByRecursion P edges
    → (number : ℕ) (route : RouteEdge) → slice_get routes number ≡ Some route
    → RoutedEdge P route
routed_edge P [] [] [] are have number route is = absurd (none-some route is)
routed_edge P [] [] (one ∷ routes) are have number route is = absurd are
routed_edge P [] (made ∷ all) routes are have number route is = absurd are
routed_edge P (edge ∷ edges) [] routes are have number route is = absurd are
routed_edge P (edge ∷ edges) (made ∷ all) [] are have number route is = absurd are
routed_edge P (edge ∷ edges) (made ∷ all) (one ∷ routes) are have zero route is =
    let same = same_Some one route is in
    record {
      edge = edge;
      same_to = ap (λ (r : RouteEdge). r.to) (sym same) ∙ are.0.to;
      same_state = ap (λ (r : RouteEdge). r.state) (sym same) ∙ are.0.state;
      has_it = have.0;
    }
routed_edge P (edge ∷ edges) (made ∷ all) (one ∷ routes) are have (suc number) route is =
    routed_edge P edges all routes are.1 have.1 number route is

-- the route of a point
record RouteOf (s : PlanScope) (at : ℕ) (found : Option (Option PlannedPoint)) (route : Route) : Type 0 where
  point : PlannedPoint
  is : found ≡ Some (Some point)
  routed : IsRoute s at point route

route_of : (s : PlanScope) (first : ℕ) (plan : Plan) (routes : Routes) → AreRoutes s first plan routes → (number : ℕ) (route : Route)
    → slice_get routes number ≡ Some (Some route)
    → RouteOf s (first + number) (slice_get plan number) route
route_of s first [] [] are number route is = absurd (none-some (Some route) is)
route_of s first [] (one ∷ routes) are number route is = absurd are
route_of s first (None ∷ plan) [] are number route is = absurd are
route_of s first (Some point ∷ plan) [] are number route is = absurd are
route_of s first (None ∷ plan) (Some one ∷ routes) are number route is = absurd are
route_of s first (Some point ∷ plan) (None ∷ routes) are number route is = absurd are
route_of s first (None ∷ plan) (None ∷ routes) are zero route is = absurd (none-some route (same_Some None (Some route) is))
route_of s first (None ∷ plan) (None ∷ routes) are (suc number) route is =
    subst (λ (n : ℕ). RouteOf s n (slice_get plan number) route) (omega arith) (route_of s (suc first) plan routes are number route is)
route_of s first (Some point ∷ plan) (Some one ∷ routes) are zero route is =
    let same : one ≡ route = same_Some one route (same_Some (Some one) (Some route) is) in
    record {
      point = point;
      is = refl;
      routed = subst (λ (n : ℕ). IsRoute s n point route) (omega arith) (subst (IsRoute s first point) same are.0);
    }
route_of s first (Some point ∷ plan) (Some one ∷ routes) are (suc number) route is =
    subst (λ (n : ℕ). RouteOf s n (slice_get plan number) route) (omega arith) (route_of s (suc first) plan routes are.1 number route is)

-- a plan and its routes reach the same points
pub same_reached : (s : PlanScope) (first : ℕ) (plan : Plan) (routes : Routes) → AreRoutes s first plan routes → (number : ℕ)
    → is_some (planned plan number) ≡ is_reached routes number
same_reached s first [] [] are number = refl
same_reached s first [] (one ∷ routes) are number = absurd are
same_reached s first (None ∷ plan) [] are number = absurd are
same_reached s first (Some point ∷ plan) [] are number = absurd are
same_reached s first (None ∷ plan) (Some one ∷ routes) are number = absurd are
same_reached s first (Some point ∷ plan) (None ∷ routes) are number = absurd are
same_reached s first (None ∷ plan) (None ∷ routes) are zero = refl
same_reached s first (Some point ∷ plan) (Some one ∷ routes) are zero = refl
same_reached s first (None ∷ plan) (None ∷ routes) are (suc number) = same_reached s (suc first) plan routes are number
same_reached s first (Some point ∷ plan) (Some one ∷ routes) are (suc number) = same_reached s (suc first) plan routes are.1 number

-- ---- the ways of a plan

module _ (classes : Classes) (links : Links) (scope : Scope) (flat : FlatCode) (plan : Plan)
    (hierarchy : IsHierarchy (headers_of classes)) (steps : AllHold (step_checks classes)) (are_links : AreLinksOf (headers_of classes) links)
    (ready : IsReadyCode classes scope flat) (candidates : HasCandidateSites classes flat) (valid : IsValid (scope_of classes links flat) plan) where
  abbrev s : PlanScope
  s = scope_of classes links flat

  candidate_at : (number : ℕ) (site : Site) → slice_get flat.sites number ≡ Some site → IsSite classes flat site
  candidate_at number site is = all_at (IsSite classes flat) flat.sites number site candidates.sites is

  sites_there : (number : ℕ) (site : Site) → slice_get flat.sites number ≡ Some site → IsThere (headers_of classes) site.class
  sites_there number site is =
      let candidate = (candidate_at number site is).candidate in
      ap is_some (class_of_folder (headers_of classes) site.class candidate.header candidate.found)

  pub sites : SitesKnown s
  sites = record {
    hierarchy = hierarchy;
    links = are_links;
    there = sites_there;
    fields = λ number site is. (candidate_at number site is).fields;
  }

  pub headers_are : scope.headers ≡ headers_of classes
  headers_are = scope_headers classes flat.host scope ready.host

  pub no_initialiser : is_init scope ≡ false
  no_initialiser = by (is_init scope) refl where
    by : (b : Bool) → is_init scope ≡ b → is_init scope ≡ false
    by true is = absurd (candidates.host (is_initialiser scope ready.host (inl is)))
    by false is = is

  -- ---- a point that is planned

  calls_init : (i : FlatInstr) → IsReadyItem classes flat.locals i → CallsObjectInit s i
  calls_init (Of class (Invoke opcode index count)) item = object_init classes steps flat.locals class opcode index count item
  calls_init (Of class instr) item = tt
  calls_init (NullTest local) item = tt

  none_asked : (number : ℕ) (point : Point) (before : State) → IsMustOf s number point before [] → (at : ℕ) (position : Position) (site : ℕ)
      → slice_get (positions (row_of_point s number point)) at ≡ Some position
      → AsksFor s before position site
      → ⊥
  none_asked number point before must at position site is asks = false≢true (must.asked site (by_position at position site is asks))

  -- by a test that each of the points has from which control comes
  module _ (reached : ℕ → Bool) where
    point_known_by : (number : ℕ) (one : PlannedPoint) → planned plan number ≡ Some one → IsTrue (reached number) → (point : Point)
        → point_at flat number ≡ Some point
        → PointKnown s reached scope number point (state_left one)
    point_known_by number one is told point there = record {
      typed = ready.typed.points number point there;
      here = λ class index is_new. record {
        point = point;
        there = there;
        class = class;
        index = index;
        is_new = is_new;
        is_reached = told;
      };
      inits = calls_init point.instr (all_at (λ (p : Point). IsReadyItem classes flat.locals p.instr) flat.points number point ready.points there);
      asks = none_asked number point (state_left one)
          (subst (λ (found : Option Point). IsMustIn s number found (state_left one) []) there (valid.each number one is).asks_none);
    }

    edges_fit : (number : ℕ) (one : PlannedPoint) → planned plan number ≡ Some one → IsTrue (reached number)
        → FitsTypes s reached number one.state
        → (edges : List Edge)
        → IsEffect s number (state_left one) edges
        → AllByRecursion (λ (edge : Edge). FitsTypes s reached edge.to edge.state) edges
    edges_fit number one is told fits edges effect =
        effect_fits s reached scope sites headers_are number fits.point (state_left one) (made_fits (has one.made) (fits_point fits))
        (point_known_by number one is told fits.point fits.there) edges effect

    -- what holds before objects are made holds behind
    above_fits : (at : ℕ) (state above : State) → IsBelow state above → FitsTypes s reached at state → FitsTypes s reached at above
    above_fits at state above below fits =
        subst (FitsTypes s reached at) (sym below.is) (fits_types (made_fits (has below.sites) (fits_point fits)))

    -- the state of the first point
    pub first_fits : (one : PlannedPoint) → planned plan 0 ≡ Some one → FitsTypes s reached 0 one.state
    first_fits one is =
        subst (FitsTypes s reached 0)
        (sym valid.no_site ∙ ap (λ (p : PlannedPoint). p.state) (same_Some valid.start one (sym valid.is_start ∙ is)))
        (start_fits s reached scope no_initialiser ready.typed.entry)

    -- along an edge
    pub next_fits : (from number : ℕ) (point : PlannedPoint) (made : MadeEdge) → planned plan from ≡ Some point → IsTrue (reached from)
        → slice_get point.edges number ≡ Some made
        → FitsTypes s reached from point.state
        → (one : PlannedPoint)
        → planned plan made.to ≡ Some one
        → FitsTypes s reached made.to one.state
    next_fits from number point made from_is told made_is fits one is =
        let v = valid.each from point from_is in
        let edge = led_edge plan (λ (edge : Edge). FitsTypes s reached edge.to edge.state) v.edges point.edges v.lead
        (edges_fit from point from_is told fits v.edges v.effect) number made made_is in
        let target : edge.leads.target ≡ one =
        same_Some edge.leads.target one (sym edge.leads.reached ∙ ap (planned plan) (sym edge.leads.same_to) ∙ is) in
        subst (λ (p : PlannedPoint). FitsTypes s reached made.to p.state) target
        (subst (λ (to : ℕ). FitsTypes s reached to edge.leads.target.state) (sym edge.leads.same_to)
        (above_fits edge.edge.to edge.edge.state edge.leads.target.state edge.leads.below edge.has_it))

  abbrev reached : ℕ → Bool
  reached number = is_some (planned plan number)

  pub point_known : (number : ℕ) (one : PlannedPoint) → planned plan number ≡ Some one → (point : Point) → point_at flat number ≡ Some point
      → PointKnown s reached scope number point (state_left one)
  point_known number one is point there = point_known_by reached number one is (ap is_some is) point there

  -- Each point that is led to, by the state with which it is planned.
  pub led_fits : (at : ℕ) → IsLedTo plan at → (one : PlannedPoint) → planned plan at ≡ Some one → FitsTypes s reached at one.state
  led_fits _ at_start one is = first_fits reached one is
  led_fits _ (over_edge from number point made led from_is made_is) one is =
      next_fits reached from number point made from_is (ap is_some from_is) made_is (led_fits from led point from_is) one is

  -- ---- routes

  -- what a test of points says of the states of routes
  record FitsRoutesBy (test : ℕ → Bool) (routes : Routes) : Type 0 where
    before : (at : ℕ) (route : Route) → slice_get routes at ≡ Some (Some route) → FitsTypes s test at route.state
    written : (at : ℕ) (route : Route) → slice_get routes at ≡ Some (Some route) → FitsTypes s test at (state_written route)
    edges : (at number : ℕ) (route : Route) (edge : RouteEdge) → slice_get routes at ≡ Some (Some route) → slice_get route.edges number ≡ Some edge
        → FitsTypes s test edge.to edge.state

  module _ (routes : Routes) (are : IsRouted s plan routes) where
    route_at : (at : ℕ) (route : Route) → slice_get routes at ≡ Some (Some route) → RouteOf s at (slice_get plan at) route
    route_at at route is = subst (λ (n : ℕ). RouteOf s n (slice_get plan at) route) (omega arith) (route_of s 0 plan routes are at route is)

    point_fits : (at : ℕ) (one : PlannedPoint) → planned plan at ≡ Some one → FitsTypes s reached at one.state
    point_fits at one is = led_fits at (valid.each at one is).led_to one is

    same_test : reached ≡ is_reached routes
    same_test = λ i number. same_reached s 0 plan routes are number i

    fits_by_plan : FitsRoutesBy reached routes
    fits_by_plan = record {
      before = λ at route is.
          let of = route_at at route is in
          subst (FitsTypes s reached at) (sym of.routed.state) (point_fits at of.point (ap option_flatten of.is));
      written = λ at route is.
          let of = route_at at route is in
          fits_types (made_fits (has route.made)
          (fits_point (subst (FitsTypes s reached at) (sym of.routed.state) (point_fits at of.point (ap option_flatten of.is)))));
      edges = λ at number route edge is edge_is.
          let of = route_at at route is in
          let planned_is = ap option_flatten of.is in
          let one = routed_edge (λ (edge : Edge). FitsTypes s reached edge.to edge.state) of.routed.effect of.point.edges route.edges of.routed.edges
          (edges_fit reached at of.point planned_is (ap is_some planned_is) (point_fits at of.point planned_is) of.routed.effect
          of.routed.is_effect) number edge edge_is in
          subst (λ (to : ℕ). FitsTypes s reached to edge.state) (sym one.same_to)
          (subst (FitsTypes s reached one.edge.to) (sym one.same_state) one.has_it);
    }

    by_routes : FitsRoutesBy (is_reached routes) routes
    by_routes = subst (λ (test : ℕ → Bool). FitsRoutesBy test routes) same_test fits_by_plan

    -- Each route and each of its edges.
    pub routes_fit : FitsRoutes s routes
    routes_fit = record { before = by_routes.before; written = by_routes.written; edges = by_routes.edges }
