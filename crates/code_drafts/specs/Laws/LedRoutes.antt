-- The edges of a point's effect beside those of its plan and of its route.
use Rattle.std.proofs.Common.{◌≡◌, ℕ, zero, suc, Bool, true, false, List, [], ◌∷◌, length, slice_get, Option, Some, None, option_map, IsTrue, refl, sym, ap, subst, ◌∙◌}
use Rattle.std.specs.List.{AllByRecursion, find}
use Rattle.std.proofs.lemmas.Option.{none-some, same_Some}
use Rattle.class_model.specs.Laws.Lists.{at_index}
use Rattle.class_model.specs.declared.frame.Frame.{Frame}
use Rattle.class_tree.specs.Headers.{headers_of}
use Rattle.code_drafts.specs.Laws.SitesInside.{AreInside, effect_inside, fewer_inside, reached_inside}
use Rattle.code_drafts.specs.Emits.{Writing}
use Rattle.code_drafts.specs.LedEdges.{AllAreLed, AreEffects, AreLed, IsLed, IsStateOn, planned_edge}
use Rattle.code_drafts.specs.Writable.{IsLeftAt, IsRouteAt, IsWritable, scope}
use Rattle.flow_code.specs.FlatCode.{FlatCode, point_at}
use Rattle.flow_code.specs.declared.point.FlatInstr.{FlatInstr}
use Rattle.flow_code.specs.declared.point.Point.{Point}
use Rattle.making_code.specs.MakeOrder.{IsMakeOrder}
use Rattle.materialise.specs.MadeCode.{CanMake, HasFewLocals}
use Rattle.member_link.specs.Machine.Links.{AreLinksOf}
use Rattle.member_link.specs.Machine.Programs.{Links}
use Rattle.plan_flow.specs.Effect.{AreEdges, IsEffect, IsEffectIn}
use Rattle.plan_flow.specs.Laws.OneEffect.{one_effect}
use Rattle.plan_flow.specs.Laws.RoutedPlans.{differing_is_made}
use Rattle.plan_flow.specs.Must.{open_edges}
use Rattle.plan_flow.specs.Narrow.{IsNarrow, IsNarrowPoint}
use Rattle.plan_flow.specs.PlanRows.{RowEdge}
use Rattle.plan_flow.specs.Plans.{AllLead, IsValidAt, LeadsTo, MadeEdge, PlannedPoint, planned, state_left}
use Rattle.plan_flow.specs.Written.Blocks.{state_written}
use Rattle.plan_flow.specs.Written.Routes.{AreEdgeRoutes, IsEdgeRoute, IsRoute, Route, RouteEdge, edge_by, is_kind}
use Rattle.plan_flow.specs.declared.edge.Edge.{Edge}
use Rattle.plan_flow.specs.declared.edge.EdgeKind.{EdgeKind}
use Rattle.virtual_state.specs.Sites.{has}
use Rattle.virtual_state.specs.States.{IsState, State, is_present}
use Rattle.virtual_state.specs.Without.{IsClosed, without}

-- ---- where objects can be made

pub few_locals : (flat : FlatCode) (at : ℕ) → IsNarrow flat → HasFewLocals flat at
few_locals flat at narrow = λ point is. (at_index IsNarrowPoint flat.points at point narrow.points is).locals

-- ---- a reached point

module _ (w : Writing) (can : IsWritable w) (links : Links) (are : AreLinksOf (headers_of w.classes) links) where
  pub valid_at : (at : ℕ) (point : PlannedPoint) → planned w.plan at ≡ Some point → IsValidAt (scope w links) w.plan at point
  valid_at at point reached = (can.valid links are).each at point reached

  point_inside : (at : ℕ) (point : PlannedPoint) → planned w.plan at ≡ Some point → AreInside (length w.flat.sites) point.state.objects
  point_inside at point reached =
      reached_inside (scope w links) w.plan at point (can.valid links are) (valid_at at point reached).led_to reached

  -- before the instruction of a reached point
  pub point_can_make : (at : ℕ) (point : PlannedPoint) → planned w.plan at ≡ Some point → CanMake w.flat at point.state point.made
  point_can_make at point reached = record {
    few_units = can.few_units;
    few_locals = few_locals w.flat at can.narrow;
    of_sites = (point_inside at point reached).each;
    present = (valid_at at point reached).is_planned.made.present;
  }

  -- the objects that are made there are closed
  pub closed_at : (at : ℕ) (state : State) (made : List ℕ)
      → option_map (λ (point : PlannedPoint). point.state) (planned w.plan at) ≡ Some state
      → option_map (λ (point : PlannedPoint). point.made) (planned w.plan at) ≡ Some made
      → IsClosed (has made) state.objects
  closed_at at state made is_state is_made = by (planned w.plan at) refl is_state is_made where
    by : (found : Option PlannedPoint) → planned w.plan at ≡ found
        → option_map (λ (point : PlannedPoint). point.state) found ≡ Some state
        → option_map (λ (point : PlannedPoint). point.made) found ≡ Some made
        → IsClosed (has made) state.objects
    by None reached none made_none = absurd (none-some state none)
    by (Some point) reached same same_made =
        subst (λ (sites : List ℕ). IsClosed (has sites) state.objects) (same_Some point.made made same_made)
        (subst (λ (s : State). IsClosed (has point.made) s.objects) (same_Some point.state state same)
        (valid_at at point reached).is_planned.made.closed)

  -- the same of a point by what its plan has
  pub planned_can_make : (at : ℕ) (state : State) (made : List ℕ)
      → option_map (λ (point : PlannedPoint). point.state) (planned w.plan at) ≡ Some state
      → option_map (λ (point : PlannedPoint). point.made) (planned w.plan at) ≡ Some made
      → CanMake w.flat at state made
  planned_can_make at state made is_state is_made = by (planned w.plan at) refl is_state is_made where
    by : (found : Option PlannedPoint) → planned w.plan at ≡ found
        → option_map (λ (point : PlannedPoint). point.state) found ≡ Some state
        → option_map (λ (point : PlannedPoint). point.made) found ≡ Some made
        → CanMake w.flat at state made
    by None reached none made_none = absurd (none-some state none)
    by (Some point) reached same same_made =
        subst (CanMake w.flat at state) (same_Some point.made made same_made)
        (subst (λ (s : State). CanMake w.flat at s point.made) (same_Some point.state state same) (point_can_make at point reached))

  -- ---- the edges of the effect

  pub effect_states : (at : ℕ) (before : State) (effect : List Edge) → IsEffect (scope w links) at before effect
      → AllByRecursion (λ (edge : Edge). IsState edge.state) effect
  effect_states at before effect is = by (point_at w.flat at) is where
    states : (point : Point) (rows : List RowEdge) (edges : List Edge) → AreEdges (scope w links) point at before rows edges
        → AllByRecursion (λ (edge : Edge). IsState edge.state) edges
    states point [] [] are = tt
    states point [] (edge ∷ edges) are = absurd are
    states point (row ∷ rows) [] are = absurd are
    states point (row ∷ rows) (edge ∷ edges) are = (are.2.is_state, states point rows edges are.3)

    by : (found : Option Point) → IsEffectIn (scope w links) at found before effect → AllByRecursion (λ (edge : Edge). IsState edge.state) effect
    by None none = subst (AllByRecursion (λ (edge : Edge). IsState edge.state)) (sym none) tt
    by (Some point) edges_are = states point (open_edges (scope w links) at point before) effect edges_are

  one_led : (edge : Edge) (made : MadeEdge) → LeadsTo w.plan edge made → IsState edge.state → AreInside (length w.flat.sites) edge.state.objects
      → IsLed w edge made
  one_led edge made leads is_state inside = record {
    by = leads.same_by;
    to = leads.same_to;
    can = record {
      few_units = can.few_units;
      few_locals = few_locals w.flat edge.to can.narrow;
      of_sites = inside.each;
      present = subst (λ (sites : List ℕ). (site : ℕ) → IsTrue (has sites site) → IsTrue (is_present edge.state.objects site)) (sym leads.same_made)
          (differing_is_made edge.state leads.target.state is_state leads.below).present;
    };
  }

  all_led : (effect : List Edge) (plans : List MadeEdge) → AllLead w.plan effect plans
      → AllByRecursion (λ (edge : Edge). IsState edge.state) effect
      → AllByRecursion (λ (edge : Edge). AreInside (length w.flat.sites) edge.state.objects) effect
      → AllAreLed w effect plans
  all_led [] [] lead states inside = tt
  all_led [] (made ∷ plans) lead states inside = absurd lead
  all_led (edge ∷ effect) [] lead states inside = absurd lead
  all_led (edge ∷ effect) (made ∷ plans) lead states inside =
      (one_led edge made lead.0 states.0 inside.0, all_led effect plans lead.1 states.1 inside.1)

  pub edges_led : (at : ℕ) (edges : List Edge) → AreEffects w at edges → AreLed w at edges
  edges_led at edges effects =
      let point = effects.point in
      let here = valid_at at point effects.reached in
      let is = effects.effect links are in
      let same : here.edges ≡ edges = one_effect (scope w links) at (state_left point) here.edges edges here.effect is in
      let inside = fewer_inside (length w.flat.sites) point.state (has point.made) (point_inside at point effects.reached) in
      record {
        point = point;
        reached = effects.reached;
        led = all_led edges point.edges (subst (λ (list : List Edge). AllLead w.plan list point.edges) same here.lead)
            (effect_states at (state_left point) edges is)
            (effect_inside (scope w links) at (state_left point) edges inside is);
        routed = λ others route others_are is_route. routes others route others_are is_route;
      } where
        routes : (others : Links) (route : Route) → AreLinksOf (headers_of w.classes) others → IsRouteAt w others at route
            → AreEdgeRoutes edges effects.point.edges route.edges
        routes others route others_are is_route =
            let same_point : is_route.point ≡ effects.point = same_Some is_route.point effects.point (sym is_route.reached ∙ effects.reached) in
            let moved : IsRoute (scope w others) at effects.point route =
            subst (λ (p : PlannedPoint). IsRoute (scope w others) at p route) same_point is_route.is in
            let same : moved.effect ≡ edges =
            one_effect (scope w others) at (state_left effects.point) moved.effect edges moved.is_effect (effects.effect others others_are) in
            subst (λ (list : List Edge). AreEdgeRoutes list effects.point.edges route.edges) same moved.edges

-- ---- edges that are found

-- an edge of the effect, that of the plan, and that of the route
pub data AreFound (w : Writing) : Option Edge → Option MadeEdge → Option RouteEdge → Type 0 where
  none_found : AreFound w None None None
  one_found : (edge : Edge) (made : MadeEdge) (route : RouteEdge)
      → IsLed w edge made
      → IsEdgeRoute edge made route
      → AreFound w (Some edge) (Some made) (Some route)

pub found_at : (w : Writing) (number : ℕ) (edges : List Edge) (plans : List MadeEdge) (routes : List RouteEdge)
    → AllAreLed w edges plans
    → AreEdgeRoutes edges plans routes
    → AreFound w (slice_get edges number) (slice_get plans number) (slice_get routes number)
found_at w number [] [] [] led are = none_found
found_at w number [] [] (route ∷ routes) led are = absurd are
found_at w number [] (made ∷ plans) routes led are = absurd led
found_at w number (edge ∷ edges) [] routes led are = absurd led
found_at w number (edge ∷ edges) (made ∷ plans) [] led are = absurd are
found_at w zero (edge ∷ edges) (made ∷ plans) (route ∷ routes) led are = one_found edge made route led.0 are.0
found_at w (suc number) (edge ∷ edges) (made ∷ plans) (route ∷ routes) led are = found_at w number edges plans routes led.1 are.1

pub found_by : (w : Writing) (by : EdgeKind) (edges : List Edge) (plans : List MadeEdge) (routes : List RouteEdge)
    → AllAreLed w edges plans
    → AreEdgeRoutes edges plans routes
    → AreFound w (find (λ (edge : Edge). is_kind edge.by by) edges) (find (λ (edge : MadeEdge). is_kind edge.by by) plans)
    (find (λ (edge : RouteEdge). is_kind edge.by by) routes)
found_by w by [] [] [] led are = none_found
found_by w by [] [] (route ∷ routes) led are = absurd are
found_by w by [] (made ∷ plans) routes led are = absurd led
found_by w by (edge ∷ edges) [] routes led are = absurd led
found_by w by (edge ∷ edges) (made ∷ plans) [] led are = absurd are
found_by w by (edge ∷ edges) (made ∷ plans) (route ∷ routes) led are =
    with (is_kind edge.by by) refl (ap (λ (k : EdgeKind). is_kind k by) led.0.by) (ap (λ (k : EdgeKind). is_kind k by) are.0.by)
    (found_by w by edges plans routes led.1 are.1) where
      with : (test : Bool) → is_kind edge.by by ≡ test → is_kind made.by by ≡ is_kind edge.by by → is_kind route.by by ≡ is_kind edge.by by
          → AreFound w (find (λ (e : Edge). is_kind e.by by) edges) (find (λ (e : MadeEdge). is_kind e.by by) plans)
          (find (λ (e : RouteEdge). is_kind e.by by) routes)
          → AreFound w (find (λ (e : Edge). is_kind e.by by) (edge ∷ edges)) (find (λ (e : MadeEdge). is_kind e.by by) (made ∷ plans))
          (find (λ (e : RouteEdge). is_kind e.by by) (route ∷ routes))
      with true is same also rest = rw (is, same ∙ is, also ∙ is) (one_found edge made route led.0 are.0)
      with false is same also rest = rw (is, same ∙ is, also ∙ is) rest

-- the edges of effect and plan, without a route
pub data AreBoth (w : Writing) : Option Edge → Option MadeEdge → Type 0 where
  none_both : AreBoth w None None
  one_both : (edge : Edge) (made : MadeEdge) → IsLed w edge made → AreBoth w (Some edge) (Some made)

pub both_at : (w : Writing) (number : ℕ) (edges : List Edge) (plans : List MadeEdge) → AllAreLed w edges plans
    → AreBoth w (slice_get edges number) (slice_get plans number)
both_at w number [] [] led = none_both
both_at w number [] (made ∷ plans) led = absurd led
both_at w number (edge ∷ edges) [] led = absurd led
both_at w zero (edge ∷ edges) (made ∷ plans) led = one_both edge made led.0
both_at w (suc number) (edge ∷ edges) (made ∷ plans) led = both_at w number edges plans led.1

pub both_by : (w : Writing) (by : EdgeKind) (edges : List Edge) (plans : List MadeEdge) → AllAreLed w edges plans
    → AreBoth w (find (λ (edge : Edge). is_kind edge.by by) edges) (find (λ (edge : MadeEdge). is_kind edge.by by) plans)
both_by w by [] [] led = none_both
both_by w by [] (made ∷ plans) led = absurd led
both_by w by (edge ∷ edges) [] led = absurd led
both_by w by (edge ∷ edges) (made ∷ plans) led =
    with (is_kind edge.by by) refl (ap (λ (k : EdgeKind). is_kind k by) led.0.by) (both_by w by edges plans led.1) where
      with : (test : Bool) → is_kind edge.by by ≡ test → is_kind made.by by ≡ is_kind edge.by by
          → AreBoth w (find (λ (e : Edge). is_kind e.by by) edges) (find (λ (e : MadeEdge). is_kind e.by by) plans)
          → AreBoth w (find (λ (e : Edge). is_kind e.by by) (edge ∷ edges)) (find (λ (e : MadeEdge). is_kind e.by by) (made ∷ plans))
      with true is same rest = rw (is, same ∙ is) (one_both edge made led.0)
      with false is same rest = rw (is, same ∙ is) rest

-- the route of a point by what its plan has
pub record IsRouteBy (w : Writing) (links : Links) (at : ℕ) (state : State) (made : List ℕ) (route : Route) : Type 0 where
  pub state_is : route.state ≡ state
  pub made_is : route.made ≡ made
  pub order : IsMakeOrder state.objects made route.order

pub route_by : (w : Writing) (links : Links) (at : ℕ) (state : State) (made : List ℕ) (route : Route)
    → option_map (λ (point : PlannedPoint). point.state) (planned w.plan at) ≡ Some state
    → option_map (λ (point : PlannedPoint). point.made) (planned w.plan at) ≡ Some made
    → IsRouteAt w links at route
    → IsRouteBy w links at state made route
route_by w links at state made route is_state is_made is_route =
    let same = same_Some is_route.point.state state (sym (ap (option_map (λ (point : PlannedPoint). point.state)) is_route.reached) ∙ is_state) in
    let same_made = same_Some is_route.point.made made (sym (ap (option_map (λ (point : PlannedPoint). point.made)) is_route.reached) ∙ is_made) in
    record {
      state_is = is_route.is.state ∙ same;
      made_is = is_route.is.made ∙ same_made;
      order =
          subst (λ (sites : List ℕ). IsMakeOrder state.objects sites route.order) same_made
          (subst (λ (s : State). IsMakeOrder s.objects is_route.point.made route.order) same is_route.is.order);
    }

-- the state that is left is the one in which the route's instruction is written
pub left_is_written : (w : Writing) (links : Links) (at : ℕ) (state : State) (route : Route) → IsLeftAt w at state → IsRouteAt w links at route
    → state ≡ state_written route
left_is_written w links at state route left is_route =
    let same = same_Some left.point is_route.point (sym left.reached ∙ is_route.reached) in
    left.left
    ∙ ap state_left same
    ∙ ap (λ (s : State). without s (has is_route.point.made)) (sym is_route.is.state)
    ∙ ap (λ (sites : List ℕ). without route.state (has sites)) (sym is_route.is.made)

-- ---- the edges of a route

module _ (w : Writing) (can : IsWritable w) (links : Links) (are : AreLinksOf (headers_of w.classes) links) where
  -- the edges of a plan and of a route, with those of the effect
  pub record HasEdges (at : ℕ) (plans : List MadeEdge) (routes : List RouteEdge) : Type 0 where
    pub edges : List Edge
    pub led : AllAreLed w edges plans
    pub routed : AreEdgeRoutes edges plans routes

  pub route_edges : (at : ℕ) (route : Route) (is_route : IsRouteAt w links at route) → HasEdges at is_route.point.edges route.edges
  route_edges at route is_route =
      let point = is_route.point in
      let here = valid_at w can links are at point is_route.reached in
      let same : here.edges ≡ is_route.is.effect =
      one_effect (scope w links) at (state_left point) here.edges is_route.is.effect here.effect is_route.is.is_effect in
      let inside = fewer_inside (length w.flat.sites) point.state (has point.made) (point_inside w can links are at point is_route.reached) in
      record {
        edges = is_route.is.effect;
        led = all_led w can links are is_route.is.effect point.edges
            (subst (λ (list : List Edge). AllLead w.plan list point.edges) same here.lead)
            (effect_states w can links are at (state_left point) is_route.is.effect is_route.is.is_effect)
            (effect_inside (scope w links) at (state_left point) is_route.is.effect inside is_route.is.is_effect);
        routed = is_route.is.edges;
      }

  pub record FoundBy (at : ℕ) (by : EdgeKind) (route : Route) : Type 0 where
    pub edge : Option Edge
    pub found : AreFound w edge (planned_edge (planned w.plan at) by) (edge_by route by)

  pub route_edge_by : (at : ℕ) (by : EdgeKind) (route : Route) → IsRouteAt w links at route → FoundBy at by route
  route_edge_by at by route is_route =
      let has = route_edges at route is_route in
      record {
        edge = find (λ (edge : Edge). is_kind edge.by by) has.edges;
        found =
            subst (λ (found : Option PlannedPoint). AreFound w (find (λ (edge : Edge). is_kind edge.by by) has.edges) (planned_edge found by) (edge_by route by))
            (sym is_route.reached)
            (found_by w by has.edges is_route.point.edges route.edges has.led has.routed);
      }

-- the state behind the edge of a kind
pub state_behind : (w : Writing) (at : ℕ) (by : EdgeKind) (edges : List Edge) (state : Option State) → AreLed w at edges
    → state ≡ option_map (λ (edge : Edge). edge.state) (find (λ (edge : Edge). is_kind edge.by by) edges)
    → IsStateOn w at by state
state_behind w at by edges state led is = record {
  can = λ behind made is_behind is_made.
      made_there (both_by w by edges led.point.edges led.led) (sym is ∙ is_behind)
      (subst (λ (found : Option PlannedPoint). planned_edge found by ≡ Some made) led.reached is_made);
  of_route = λ links route are is_route.
      route_there (found_by w by edges led.point.edges route.edges led.led (led.routed links route are is_route)) ∙ sym is;
} where
  made_there : {edge : Option Edge} {plan : Option MadeEdge} {behind : State} {made : MadeEdge} → AreBoth w edge plan
      → option_map (λ (edge : Edge). edge.state) edge ≡ Some behind
      → plan ≡ Some made
      → CanMake w.flat made.to behind made.made
  made_there {behind = behind} {made = made} none_both none same = absurd (none-some behind none)
  made_there {behind = behind} {made = made} (one_both edge own is_led) same same_made =
      let is_own : own ≡ made = same_Some own made same_made in
      subst (λ (m : MadeEdge). CanMake w.flat m.to behind m.made) is_own
      (subst (λ (to : ℕ). CanMake w.flat to behind own.made) (sym is_led.to)
      (subst (λ (s : State). CanMake w.flat edge.to s own.made) (same_Some edge.state behind same) is_led.can))

  route_there : {edge : Option Edge} {plan : Option MadeEdge} {route : Option RouteEdge} → AreFound w edge plan route
      → option_map (λ (edge : RouteEdge). edge.state) route ≡ option_map (λ (edge : Edge). edge.state) edge
  route_there none_found = refl
  route_there (one_found edge made route is_led is_route) = ap (λ (s : State). Some s) is_route.state

-- ---- what the code finds

pub instr_is : (inside : FlatCode) (w : Writing) (at : ℕ) (point : Point) (instr : FlatInstr)
    → Some instr ≡ option_map (λ (p : Point). p.instr) (point_at inside at)
    → inside ≡ w.flat
    → point_at w.flat at ≡ Some point
    → point.instr ≡ instr
instr_is inside w at point instr is same there =
    sym
    (same_Some instr point.instr
    (is ∙ ap (λ (f : FlatCode). option_map (λ (p : Point). p.instr) (point_at f at)) same ∙ ap (option_map (λ (p : Point). p.instr)) there))

pub typed_is : (inside : FlatCode) (w : Writing) (at : ℕ) (point : Point) (types : Frame)
    → Some types ≡ option_map (λ (p : Point). p.typed) (point_at inside at)
    → inside ≡ w.flat
    → point_at w.flat at ≡ Some point
    → types ≡ point.typed
typed_is inside w at point types is same there =
    same_Some types point.typed
    (is ∙ ap (λ (f : FlatCode). option_map (λ (p : Point). p.typed) (point_at f at)) same ∙ ap (option_map (λ (p : Point). p.typed)) there)
