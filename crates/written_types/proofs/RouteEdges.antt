-- The edges of a reached point's route: each is that of an edge of the point's row, and what comes along it may go to the target.
use Rattle.std.proofs.Common.{◌≡◌, ◌+◌, ℕ, zero, suc, Bool, true, false, List, [], ◌∷◌, ◌++◌, Option, Some, None, slice_get, refl, sym, ap, subst, ◌∙◌, arith}
use Rattle.std.specs.Prelude.{is_some}
use Rattle.std.specs.List.{AllByRecursion, filter, find}
use Rattle.std.proofs.lemmas.Bool.{eqb-true, false≢true}
use Rattle.std.proofs.lemmas.Option.{none-some, same_Some}
use Rattle.class_tree.specs.Headers.{headers_of}
use Rattle.flow_code.specs.FlatCode.{point_at}
use Rattle.flow_code.specs.declared.handlers.FlatHandler.{FlatHandler}
use Rattle.flow_code.specs.declared.point.Point.{Point}
use Rattle.plan_flow.specs.Effect.{AreEdges, IsEffectIn, IsStateBehind}
use Rattle.plan_flow.specs.Laws.OpenEdges.{IsOfRow}
use Rattle.plan_flow.specs.Laws.RoutedPlans.{EdgeLeads, IsRouteOf, leads_of, route_of}
use Rattle.plan_flow.specs.Must.{open_edges, row_of_point}
use Rattle.plan_flow.specs.PlanRows.{Guard, PlanRow, RowEdge}
use Rattle.plan_flow.specs.PlanScope.{PlanScope}
use Rattle.plan_flow.specs.PlanSlots.{is_open}
use Rattle.plan_flow.specs.PlanTable.{edges_of, falls_on, handler_edges, jump_edges, next_edges, targets_at, thrown_edges}
use Rattle.plan_flow.specs.Plans.{MadeEdge, PlannedPoint, planned, state_left}
use Rattle.plan_flow.specs.Written.Blocks.{state_written}
use Rattle.plan_flow.specs.Written.Routes.{AreEdgeRoutes, IsRoute, Route, RouteEdge, edge_by, is_kind}
use Rattle.plan_flow.specs.declared.edge.Edge.{Edge}
use Rattle.plan_flow.specs.declared.edge.EdgeKind.{EdgeKind}
use Rattle.plan_flow.specs.declared.edge.EdgeKind.TheVariants as edges
use Rattle.virtual_state.specs.Sites.{has}
use Rattle.virtual_state.specs.States.{State}
use Rattle.virtual_state.specs.Without.{without}
use Rattle.written_types.proofs.Arrivals.{FitsPoint, fits_point}
use Rattle.written_types.proofs.EdgeRows.{ComesAlong, edges_come}
use Rattle.written_types.proofs.Edges.{PointKnown}
use Rattle.written_types.proofs.Given.{Given}
use Rattle.written_types.proofs.SiteFields.{SitesKnown}
use Rattle.written_types.proofs.Standing.{all_at, all_joined}
use Rattle.written_types.proofs.Ways.{headers_are, point_known, same_reached, sites}
use Rattle.written_types.specs.FitsTypes.{FitsTypes, is_reached}
use Rattle.written_types.specs.Writing.{Writing}

-- ---- lists

in_filtered : {A : Type 0} (test : A → Bool) (items : List A) (number : ℕ) (item : A)
    → slice_get (filter test items) number ≡ Some item
    → (place : ℕ) × (slice_get items place ≡ Some item)
in_filtered test [] number item is = absurd (none-some item is)
in_filtered {A = A} test (first ∷ items) number item is =
    by (test first) refl number is (λ more rest. in_filtered test items more item rest) where
      by : (kept : Bool)
          → test first ≡ kept
          → (number : ℕ)
          → slice_get (filter test (first ∷ items)) number ≡ Some item
          → ((more : ℕ) → slice_get (filter test items) more ≡ Some item → (place : ℕ) × (slice_get items place ≡ Some item))
          → (place : ℕ) × (slice_get (first ∷ items) place ≡ Some item)
      by true told zero here rest =
          let there : slice_get (filter test (first ∷ items)) zero ≡ Some first = rw (told) refl in
          (0, sym there ∙ here)
      by true told (suc more) here rest =
          let there : slice_get (filter test (first ∷ items)) (suc more) ≡ slice_get (filter test items) more = rw (told) refl in
          let found = rest more (sym there ∙ here) in
          (suc found.0, found.1)
      by false told more here rest =
          let there : slice_get (filter test (first ∷ items)) more ≡ slice_get (filter test items) more = rw (told) refl in
          let found = rest more (sym there ∙ here) in
          (suc found.0, found.1)

-- what is found stands somewhere, and passes
pub record Found {A : Type 0} (test : A → Bool) (items : List A) (item : A) : Type 0 where
  pub number : ℕ
  pub there : slice_get items number ≡ Some item
  pub passes : test item ≡ true

pub found_there : {A : Type 0} (test : A → Bool) (items : List A) (item : A) → find test items ≡ Some item → Found test items item
found_there test [] item is = absurd (none-some item is)
found_there {A = A} test (first ∷ items) item is = by (test first) refl (λ rest. found_there test items item rest) where
  by : (b : Bool) → test first ≡ b → (find test items ≡ Some item → Found test items item) → Found test (first ∷ items) item
  by true told rest =
      let same : first ≡ item = same_Some first item (sym (rw (told) refl) ∙ is) in
      record { number = 0; there = ap (λ (x : A). Some x) same; passes = ap test (sym same) ∙ told }
  by false told rest =
      let found = rest (sym (rw (told) refl) ∙ is) in
      record { number = suc found.number; there = found.there; passes = found.passes }

pub same_kind : (one other : EdgeKind) → is_kind one other ≡ true → one ≡ other
same_kind edges.Next edges.Next is = refl
same_kind edges.Next (edges.Jump number) is = absurd (false≢true is)
same_kind edges.Next (edges.Handler number) is = absurd (false≢true is)
same_kind (edges.Jump number) edges.Next is = absurd (false≢true is)
same_kind (edges.Jump number) (edges.Jump other) is = ap edges.Jump (eqb-true number other is)
same_kind (edges.Jump number) (edges.Handler other) is = absurd (false≢true is)
same_kind (edges.Handler number) edges.Next is = absurd (false≢true is)
same_kind (edges.Handler number) (edges.Jump other) is = absurd (false≢true is)
same_kind (edges.Handler number) (edges.Handler other) is = ap edges.Handler (eqb-true number other is)

-- ---- the row of an edge

record HasRow (s : PlanScope) (point : Point) (at : ℕ) (before : State) (rows : List RowEdge) (edge : RouteEdge) : Type 0 where
  row : RowEdge
  number : ℕ
  there : slice_get rows number ≡ Some row
  is : IsOfRow s point at before row edge

has_row : (s : PlanScope) (point : Point) (at : ℕ) (before : State) (rows : List RowEdge) (effect : List Edge) (plans : List MadeEdge)
    (routes : List RouteEdge) (number : ℕ) (edge : RouteEdge)
    → AreEdges s point at before rows effect
    → AreEdgeRoutes effect plans routes
    → slice_get routes number ≡ Some edge
    → HasRow s point at before rows edge
has_row s point at before [] [] [] [] number edge are also is = absurd (none-some edge is)
has_row s point at before [] [] [] (route ∷ routes) number edge are also is = absurd also
has_row s point at before [] [] (plan ∷ plans) routes number edge are also is = absurd also
has_row s point at before [] (one ∷ effect) plans routes number edge are also is = absurd are
has_row s point at before (row ∷ rows) [] plans routes number edge are also is = absurd are
has_row s point at before (row ∷ rows) (one ∷ effect) [] routes number edge are also is = absurd also
has_row s point at before (row ∷ rows) (one ∷ effect) (plan ∷ plans) [] number edge are also is = absurd also
has_row s point at before (row ∷ rows) (one ∷ effect) (plan ∷ plans) (route ∷ routes) zero edge are also is = record {
  row = row;
  number = 0;
  there = refl;
  is = subst (IsOfRow s point at before row) (same_Some route edge is) (record {
    by = also.0.by ∙ are.0;
    to = also.0.to ∙ are.1;
    state = subst (IsStateBehind s point at before row) (sym also.0.state) are.2;
  });
}
has_row s point at before (row ∷ rows) (one ∷ effect) (plan ∷ plans) (route ∷ routes) (suc number) edge are also is =
    let rest = has_row s point at before rows effect plans routes number edge are.3 also.1 is in
    record { row = rest.row; number = suc rest.number; there = rest.there; is = rest.is }

-- An edge of a route is that of an edge of the point's row, and what comes along it may go to the target.
pub record EdgeComes (w : Writing) (at : ℕ) (point : Point) (route : Route) (edge : RouteEdge) : Type 0 where
  pub row : RowEdge
  pub number : ℕ
  pub there : slice_get (edges_of at point (row_of_point w.s at point)) number ≡ Some row
  pub place : ℕ
  pub open_there : slice_get (open_edges w.s at point (state_written route)) place ≡ Some row
  pub is : IsOfRow w.s point at (state_written route) row edge
  pub comes : ComesAlong w.s w.host at point (state_written route) row.by row.to

module _ (w : Writing) (given : Given w) where
  -- the planned point of a route
  pub planned_route : (at : ℕ) (route : Route)
      → slice_get given.setting.routes at ≡ Some (Some route)
      → IsRouteOf w.s given.setting.plan at at route
  planned_route at route is_route =
      let all = route_of w.s 0 given.setting.plan given.setting.routes at route given.setting.routed is_route in
      record {
        point = all.point;
        reached = all.reached;
        is = subst (λ (n : ℕ). IsRoute w.s n all.point route) (the_same (0 + at) at (omega arith)) all.is;
      }
    where
      the_same : (a b : ℕ) → a ≡ b → a ≡ b
      the_same a b e = e

  pub written_is : (at : ℕ) (point : PlannedPoint) (route : Route) → IsRoute w.s at point route → state_left point ≡ state_written route
  written_is at point route is =
      ap (λ (state : State). without state (has point.made)) (sym is.state)
      ∙ ap (λ (made : List ℕ). without route.state (has made)) (sym is.made)

  pub edge_comes : (at number : ℕ) (point : Point) (route : Route) (edge : RouteEdge)
      → point_at w.s.flat at ≡ Some point
      → slice_get given.setting.routes at ≡ Some (Some route)
      → slice_get route.edges number ≡ Some edge
      → EdgeComes w at point route edge
  edge_comes at number point route edge there is_route is_edge =
      let row = has_row w.s point at (state_left one) (open_edges w.s at point (state_left one)) found.is.effect one.edges route.edges number edge
      effect found.is.edges is_edge in
      let own = in_filtered (λ (e : RowEdge). is_open (state_left one) e.guard) (edges_of at point (row_of_point w.s at point)) row.number row.row
      row.there in
      record {
        row = row.row;
        number = own.0;
        there = own.1;
        place = row.number;
        open_there = subst (λ (before : State). slice_get (open_edges w.s at point before) row.number ≡ Some row.row) same row.there;
        is = subst (λ (before : State). IsOfRow w.s point at before row.row edge) same row.is;
        comes =
            all_at (λ (e : RowEdge). ComesAlong w.s w.host at point (state_written route) e.by e.to)
            (edges_of at point (row_of_point w.s at point)) own.0 row.row all own.1;
      }
    where
      found : IsRouteOf w.s given.setting.plan at at route
      found = planned_route at route is_route

      one : PlannedPoint
      one = found.point

      same : state_left one ≡ state_written route
      same = written_is at one route found.is

      effect : AreEdges w.s point at (state_left one) (open_edges w.s at point (state_left one)) found.is.effect
      effect = subst (λ (at_it : Option Point). IsEffectIn w.s at at_it (state_left one) found.is.effect) there found.is.is_effect

      known : PointKnown w.s (λ (n : ℕ). is_some (planned given.setting.plan n)) w.host at point (state_left one)
      known =
          point_known w.s.classes w.s.links w.host w.s.flat given.setting.plan given.hierarchy given.setting.tree.holds given.setting.links given.setting.ready
          given.setting.sites given.setting.valid at one found.reached point there

      site_facts : SitesKnown w.s
      site_facts =
          sites w.s.classes w.s.links w.host w.s.flat given.setting.plan given.hierarchy given.setting.tree.holds given.setting.links given.setting.ready
          given.setting.sites given.setting.valid

      headers_same : w.host.headers ≡ headers_of w.s.classes
      headers_same =
          headers_are w.s.classes w.s.links w.host w.s.flat given.setting.plan given.hierarchy given.setting.tree.holds given.setting.links given.setting.ready
          given.setting.sites given.setting.valid

      tests : (λ (n : ℕ). is_some (planned given.setting.plan n)) ≡ is_reached given.setting.routes
      tests = λ i n. same_reached w.s 0 given.setting.plan given.setting.routes given.setting.routed n i

      known_by_routes : PointKnown w.s (is_reached given.setting.routes) w.host at point (state_written route)
      known_by_routes =
          subst (λ (test : ℕ → Bool). PointKnown w.s test w.host at point (state_written route)) tests
          (subst (PointKnown w.s (λ (n : ℕ). is_some (planned given.setting.plan n)) w.host at point) same known)

      fits : FitsTypes w.s (is_reached given.setting.routes) at (state_written route)
      fits = given.fits.written at route is_route

      point_is : fits.point ≡ point
      point_is = same_Some fits.point point (sym fits.there ∙ there)

      all : AllByRecursion (λ (e : RowEdge). ComesAlong w.s w.host at point (state_written route) e.by e.to)
          (edges_of at point (row_of_point w.s at point))
      all =
          edges_come w.s (is_reached given.setting.routes) w.host site_facts headers_same at point (state_written route)
          (subst (λ (x : Point). FitsPoint w.s (is_reached given.setting.routes) at x (state_written route)) point_is (fits_point fits)) known_by_routes

  -- an edge of a kind is one of the route's
  pub edge_number : (route : Route) (by : EdgeKind) (edge : RouteEdge)
      → edge_by route by ≡ Some edge
      → (number : ℕ) × (slice_get route.edges number ≡ Some edge) × (edge.by ≡ by)
  edge_number route by edge found =
      let there = found_there (λ (e : RouteEdge). is_kind e.by by) route.edges edge found in
      (there.number, there.there, same_kind edge.by by there.passes)

  -- where an edge of a route leads
  pub edge_leads : (at number : ℕ) (point : Point) (route : Route) (edge : RouteEdge)
      → point_at w.s.flat at ≡ Some point
      → slice_get given.setting.routes at ≡ Some (Some route)
      → slice_get route.edges number ≡ Some edge
      → EdgeLeads w.s given.setting.plan edge
  edge_leads at number point route edge there is_route is_edge =
      leads_of w.s given.setting.plan given.setting.routes at point route number edge given.one_effect given.setting.valid given.setting.routed
      there is_route is_edge

-- ---- the next point

abbrev GoesNext : ℕ → RowEdge → Type 0
GoesNext at row = row.by ≡ edges.Next → row.to ≡ suc at

jumps_go : (at : ℕ) (r : PlanRow) (number : ℕ) (targets : List ℕ) → AllByRecursion (GoesNext at) (jump_edges r number targets)
jumps_go at r number [] = tt
jumps_go at r number (to ∷ targets) = (λ is. absurd cc, jumps_go at r (number + 1) targets)

handlers_go : (at : ℕ) (guard : Guard) (number : ℕ) (handlers : List FlatHandler) → AllByRecursion (GoesNext at) (handler_edges guard number handlers)
handlers_go at guard number [] = tt
handlers_go at guard number (handler ∷ handlers) = (λ is. absurd cc, handlers_go at guard (number + 1) handlers)

rows_go : (s : PlanScope) (at : ℕ) (point : Point) → AllByRecursion (GoesNext at) (edges_of at point (row_of_point s at point))
rows_go s at point =
    all_joined (GoesNext at) (next_edges at r (falls_on point.instr) ++ jump_edges r 0 (targets_at point.instr)) (thrown_edges r.throws point.handlers)
    (all_joined (GoesNext at) (next_edges at r (falls_on point.instr)) (jump_edges r 0 (targets_at point.instr)) (next (falls_on point.instr))
    (jumps_go at r 0 (targets_at point.instr))) (thrown r.throws) where
      r : PlanRow
      r = row_of_point s at point

      next : (falls : Bool) → AllByRecursion (GoesNext at) (next_edges at r falls)
      next true = (λ is. omega arith, tt)
      next false = tt

      thrown : (throws : Option Guard) → AllByRecursion (GoesNext at) (thrown_edges throws point.handlers)
      thrown None = tt
      thrown (Some guard) = handlers_go at guard 0 point.handlers

pub next_to : (w : Writing) (at : ℕ) (point : Point) (route : Route) (edge : RouteEdge)
    → EdgeComes w at point route edge
    → edge.by ≡ edges.Next
    → edge.to ≡ suc at
next_to w at point route edge c next =
    c.is.to ∙ all_at (GoesNext at) (edges_of at point (row_of_point w.s at point)) c.number c.row (rows_go w.s at point) c.there (sym c.is.by ∙ next)
