-- Where the edge to the next point leads, in the routes of a plan.
use Rattle.std.proofs.Common.{◌≡◌, ◌+◌, ◌++◌, ℕ, suc, Bool, true, false, List, [], ◌∷◌, filter, slice_get, Option, Some, None, refl, sym, ap, subst, ◌∙◌, arith}
use Rattle.std.specs.List.{AllByRecursion, find}
use Rattle.std.proofs.lemmas.Bool.{false≢true}
use Rattle.std.proofs.lemmas.Option.{none-some, same_Some}
use Rattle.flow_code.specs.FlatCode.{point_at}
use Rattle.flow_code.specs.declared.handlers.FlatHandler.{FlatHandler}
use Rattle.flow_code.specs.declared.point.Point.{Point}
use Rattle.plan_flow.specs.Effect.{AreEdges, IsEffectIn}
use Rattle.plan_flow.specs.Laws.RoutedPlans.{IsRouteOf, route_of}
use Rattle.plan_flow.specs.Laws.WrittenBlocks.{holds_of_both}
use Rattle.plan_flow.specs.Must.{open_edges, row_of_point}
use Rattle.plan_flow.specs.PlanRows.{Guard, PlanRow, RowEdge}
use Rattle.plan_flow.specs.PlanScope.{PlanScope}
use Rattle.plan_flow.specs.PlanSlots.{is_open}
use Rattle.plan_flow.specs.PlanTable.{edges_of, falls_on, handler_edges, jump_edges, next_edges, targets_at, thrown_edges}
use Rattle.plan_flow.specs.Plans.{MadeEdge, Plan, state_left}
use Rattle.plan_flow.specs.Written.Routes.{AreEdgeRoutes, IsRoute, IsRouted, Route, RouteEdge, Routes, edge_by, is_kind}
use Rattle.plan_flow.specs.declared.edge.Edge.{Edge}
use Rattle.plan_flow.specs.declared.edge.EdgeKind.{EdgeKind}
use Rattle.plan_flow.specs.declared.edge.EdgeKind.TheVariants as edges
use Rattle.virtual_state.specs.States.{State}

-- an edge that goes on to the next point leads there
abbrev Follows : ℕ → EdgeKind → ℕ → Type 0
Follows at by to = by ≡ edges.Next → to ≡ suc at

jumps_follow : (row : PlanRow) (at number : ℕ) (targets : List ℕ)
    → AllByRecursion (λ (edge : RowEdge). Follows at edge.by edge.to) (jump_edges row number targets)
jumps_follow row at number [] = tt
jumps_follow row at number (to ∷ targets) = (λ is. absurd cc, jumps_follow row at (number + 1) targets)

handlers_follow : (guard : Guard) (at number : ℕ) (handlers : List FlatHandler)
    → AllByRecursion (λ (edge : RowEdge). Follows at edge.by edge.to) (handler_edges guard number handlers)
handlers_follow guard at number [] = tt
handlers_follow guard at number (handler ∷ handlers) = (λ is. absurd cc, handlers_follow guard at (number + 1) handlers)

rows_follow : (at : ℕ) (point : Point) (row : PlanRow) → AllByRecursion (λ (edge : RowEdge). Follows at edge.by edge.to) (edges_of at point row)
rows_follow at point row =
    holds_of_both (λ (edge : RowEdge). Follows at edge.by edge.to)
    (next_edges at row (falls_on point.instr) ++ jump_edges row 0 (targets_at point.instr)) (thrown_edges row.throws point.handlers)
    (holds_of_both (λ (edge : RowEdge). Follows at edge.by edge.to) (next_edges at row (falls_on point.instr)) (jump_edges row 0 (targets_at point.instr))
    (by_next (falls_on point.instr)) (jumps_follow row at 0 (targets_at point.instr))) (by_throws row.throws) where
      by_next : (falls : Bool) → AllByRecursion (λ (edge : RowEdge). Follows at edge.by edge.to) (next_edges at row falls)
      by_next true = (λ is. omega arith, tt)
      by_next false = tt

      by_throws : (throws : Option Guard) → AllByRecursion (λ (edge : RowEdge). Follows at edge.by edge.to) (thrown_edges throws point.handlers)
      by_throws None = tt
      by_throws (Some guard) = handlers_follow guard at 0 point.handlers

filtered_follow : (at : ℕ) (test : RowEdge → Bool) (rows : List RowEdge)
    → AllByRecursion (λ (edge : RowEdge). Follows at edge.by edge.to) rows
    → AllByRecursion (λ (edge : RowEdge). Follows at edge.by edge.to) (filter test rows)
filtered_follow at test [] all = tt
filtered_follow at test (row ∷ rows) all = by (test row) refl (filtered_follow at test rows all.1) where
  by : (kept : Bool) → test row ≡ kept → AllByRecursion (λ (edge : RowEdge). Follows at edge.by edge.to) (filter test rows)
      → AllByRecursion (λ (edge : RowEdge). Follows at edge.by edge.to) (filter test (row ∷ rows))
  by true told rest = rw (told) (all.0, rest)
  by false told rest = rw (told) rest

effect_follows : (s : PlanScope) (at : ℕ) (point : Point) (before : State) (rows : List RowEdge) (effect : List Edge)
    → AreEdges s point at before rows effect
    → AllByRecursion (λ (edge : RowEdge). Follows at edge.by edge.to) rows
    → AllByRecursion (λ (edge : Edge). Follows at edge.by edge.to) effect
effect_follows s at point before [] [] are all = tt
effect_follows s at point before [] (edge ∷ effect) are all = absurd are
effect_follows s at point before (row ∷ rows) [] are all = absurd are
effect_follows s at point before (row ∷ rows) (edge ∷ effect) are all =
    (λ is. are.1 ∙ all.0 (sym are.0 ∙ is), effect_follows s at point before rows effect are.3 all.1)

routes_follow : (at : ℕ) (effect : List Edge) (plans : List MadeEdge) (routes : List RouteEdge)
    → AreEdgeRoutes effect plans routes
    → AllByRecursion (λ (edge : Edge). Follows at edge.by edge.to) effect
    → AllByRecursion (λ (edge : RouteEdge). Follows at edge.by edge.to) routes
routes_follow at [] [] [] are all = tt
routes_follow at [] [] (route ∷ routes) are all = absurd are
routes_follow at [] (plan ∷ plans) routes are all = absurd are
routes_follow at (edge ∷ effect) [] routes are all = absurd are
routes_follow at (edge ∷ effect) (plan ∷ plans) [] are all = absurd are
routes_follow at (edge ∷ effect) (plan ∷ plans) (route ∷ routes) are all =
    (λ is. are.0.to ∙ all.0 (sym are.0.by ∙ is), routes_follow at effect plans routes are.1 all.1)

found_follows : (at : ℕ) (all : List RouteEdge) (edge : RouteEdge)
    → AllByRecursion (λ (one : RouteEdge). Follows at one.by one.to) all
    → find (λ one. is_kind one.by edges.Next) all ≡ Some edge
    → edge.to ≡ suc at
found_follows at [] edge each is = absurd (none-some edge is)
found_follows at (first ∷ all) edge each is = by (is_kind first.by edges.Next) refl (found_follows at all edge each.1) where
  of_kind : (by : EdgeKind) → is_kind by edges.Next ≡ true → by ≡ edges.Next
  of_kind edges.Next told = refl
  of_kind (edges.Jump number) told = absurd (false≢true told)
  of_kind (edges.Handler number) told = absurd (false≢true told)

  by : (here : Bool) → is_kind first.by edges.Next ≡ here
      → (find (λ one. is_kind one.by edges.Next) all ≡ Some edge → edge.to ≡ suc at)
      → edge.to ≡ suc at
  by true told rest =
      let same = same_Some first edge (sym (rw (told) refl) ∙ is) in
      ap (λ (one : RouteEdge). one.to) (sym same) ∙ each.0 (of_kind first.by told)
  by false told rest = rest (sym (rw (told) refl) ∙ is)

-- The edge to the next point, if control may take it, leads to the point behind.
pub next_follows : (s : PlanScope) (plan : Plan) (routes : Routes) (at : ℕ) (point : Point) (route : Route) (edge : RouteEdge)
    → IsRouted s plan routes
    → point_at s.flat at ≡ Some point
    → slice_get routes at ≡ Some (Some route)
    → edge_by route edges.Next ≡ Some edge
    → edge.to ≡ suc at
next_follows s plan routes at point route edge routed is_point is_route found =
    found_follows at route.edges edge
    (routes_follow at there.is.effect there.point.edges route.edges there.is.edges
    (effect_follows s at point (state_left there.point) (open_edges s at point (state_left there.point)) there.is.effect
    (subst (λ (at_it : Option Point). IsEffectIn s at at_it (state_left there.point) there.is.effect) is_point there.is.is_effect)
    (filtered_follow at (λ one. is_open (state_left there.point) one.guard) (edges_of at point (row_of_point s at point))
    (rows_follow at point (row_of_point s at point))))) found where
      there : IsRouteOf s plan at at route
      there =
          let all = route_of s 0 plan routes at route routed is_route in
          record { point = all.point; reached = all.reached; is = subst (λ (n : ℕ). IsRoute s n all.point route) (omega arith) all.is }
