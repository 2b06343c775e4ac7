-- A conditional jump throws nothing, so that no edge leads from it to a handler.
use Rattle.std.proofs.Common.{◌≡◌, ◌==◌, ◌+◌, ◌++◌, ℕ, suc, Bool, true, false, List, [], ◌∷◌, slice_get, Option, Some, None, is_some, refl, sym, ap, subst, ◌∙◌, arith}
use Rattle.std.specs.List.{AllByRecursion, find}
use Rattle.std.proofs.lemmas.Bool.{false≢true}
use Rattle.class_model.specs.declared.frame.Frame.{Frame}
use Rattle.class_model.specs.declared.instr.Instr.{Instr}
use Rattle.class_model.specs.declared.instr.Instr.TheVariants.{IfNull, IfSame}
use Rattle.class_model.specs.declared.opcodes.TheConstants.{IFNULL, IF_ACMPEQ}
use Rattle.flow_code.specs.declared.handlers.FlatHandler.{FlatHandler}
use Rattle.flow_code.specs.declared.point.FlatInstr.TheVariants.{Of}
use Rattle.flow_code.specs.declared.point.Point.{Point}
use Rattle.making_code.specs.Opposites.{opposite_instr}
use Rattle.plan_flow.specs.Effect.{AreEdges, IsEffectIn}
use Rattle.plan_flow.specs.Laws.OpenEdges.{all_still}
use Rattle.plan_flow.specs.Laws.RoutedPlans.{IsRouteOf, route_of}
use Rattle.plan_flow.specs.Laws.WrittenBlocks.{holds_of_both}
use Rattle.plan_flow.specs.Must.{open_edges, row_of_point}
use Rattle.plan_flow.specs.PlanRows.{PlanRow, RowEdge}
use Rattle.plan_flow.specs.PlanScope.{PlanScope}
use Rattle.plan_flow.specs.PlanSlots.{is_open}
use Rattle.plan_flow.specs.PlanTable.{edges_of, falls_on, instr_row, jump_edges, next_edges, targets_at, thrown_edges}
use Rattle.plan_flow.specs.Plans.{MadeEdge, Plan, state_left}
use Rattle.plan_flow.specs.Written.Routes.{AreEdgeRoutes, IsRoute, IsRouted, Route, RouteEdge, Routes, edge_by, is_kind}
use Rattle.plan_flow.specs.Written.Templates.{catches_at, catches_from}
use Rattle.plan_flow.specs.declared.edge.Edge.{Edge}
use Rattle.plan_flow.specs.declared.edge.EdgeKind.{EdgeKind}
use Rattle.plan_flow.specs.declared.edge.EdgeKind.TheVariants as edges
use Rattle.virtual_state.specs.States.{State}
use Rattle.written_frames.specs.Laws.Turnings.{Turning, no_turn, turn_if, turn_if2, turn_null, turn_same, turning}

-- ---- the row of a conditional jump

none_thrown : (s : PlanScope) (at : ℕ) (f : Frame) (class : ℕ) (instr : Instr) → Turning instr → is_some (opposite_instr instr) ≡ true
    → (instr_row s at f class instr).throws ≡ None
none_thrown s at f class instr (no_turn none) some = absurd (false≢true (sym (ap is_some none) ∙ some))
none_thrown s at f class instr (turn_if opcode to) some = refl
none_thrown s at f class instr (turn_if2 opcode to) some = refl
none_thrown s at f class instr (turn_same opcode to) some = by (opcode == IF_ACMPEQ) refl where
  by : (b : Bool) → (opcode == IF_ACMPEQ) ≡ b → (instr_row s at f class (IfSame opcode to)).throws ≡ None
  by true told = rw told refl
  by false told = rw told refl
none_thrown s at f class instr (turn_null opcode to) some = by (opcode == IFNULL) refl where
  by : (b : Bool) → (opcode == IFNULL) ≡ b → (instr_row s at f class (IfNull opcode to)).throws ≡ None
  by true told = rw told refl
  by false told = rw told refl

-- ---- edges that lead to no handler

abbrev IsNotCaught : RowEdge → Type 0
IsNotCaught row = (number : ℕ) → is_kind row.by (edges.Handler number) ≡ false

jumps_not_caught : (row : PlanRow) (number : ℕ) (targets : List ℕ) → AllByRecursion IsNotCaught (jump_edges row number targets)
jumps_not_caught row number [] = tt
jumps_not_caught row number (to ∷ targets) = ((λ handler. refl), jumps_not_caught row (number + 1) targets)

next_not_caught : (at : ℕ) (row : PlanRow) (falls : Bool) → AllByRecursion IsNotCaught (next_edges at row falls)
next_not_caught at row true = ((λ handler. refl), tt)
next_not_caught at row false = tt

rows_not_caught : (at : ℕ) (point : Point) (row : PlanRow) → row.throws ≡ None → AllByRecursion IsNotCaught (edges_of at point row)
rows_not_caught at point row none =
    holds_of_both IsNotCaught (next_edges at row (falls_on point.instr) ++ jump_edges row 0 (targets_at point.instr)) (thrown_edges row.throws point.handlers)
    (holds_of_both IsNotCaught (next_edges at row (falls_on point.instr)) (jump_edges row 0 (targets_at point.instr))
    (next_not_caught at row (falls_on point.instr)) (jumps_not_caught row 0 (targets_at point.instr)))
    (rw none tt)

none_caught : (s : PlanScope) (point : Point) (at : ℕ) (before : State) (rows : List RowEdge) (effect : List Edge) (plans : List MadeEdge)
    (routes : List RouteEdge) (number : ℕ)
    → AreEdges s point at before rows effect
    → AreEdgeRoutes effect plans routes
    → AllByRecursion IsNotCaught rows
    → find (λ edge. is_kind edge.by (edges.Handler number)) routes ≡ None
none_caught s point at before [] [] [] [] number are also not = refl
none_caught s point at before [] [] [] (route ∷ routes) number are also not = absurd also
none_caught s point at before [] [] (plan ∷ plans) routes number are also not = absurd also
none_caught s point at before [] (edge ∷ effect) plans routes number are also not = absurd are
none_caught s point at before (row ∷ rows) [] plans routes number are also not = absurd are
none_caught s point at before (row ∷ rows) (edge ∷ effect) [] routes number are also not = absurd also
none_caught s point at before (row ∷ rows) (edge ∷ effect) (plan ∷ plans) [] number are also not = absurd also
none_caught s point at before (row ∷ rows) (edge ∷ effect) (plan ∷ plans) (route ∷ routes) number are also not =
    let told : is_kind route.by (edges.Handler number) ≡ false =
    ap (λ (kind : EdgeKind). is_kind kind (edges.Handler number)) (also.0.by ∙ are.0) ∙ not.0 number in
    rw told (none_caught s point at before rows effect plans routes number are.3 also.1 not.1)

catches_none : (at : ℕ) (route : Route) (number : ℕ) (handlers : List FlatHandler) → ((n : ℕ) → edge_by route (edges.Handler n) ≡ None)
    → catches_from at route number handlers ≡ []
catches_none at route number [] none = refl
catches_none at route number (handler ∷ handlers) none = rw (none number) (catches_none at route (suc number) handlers none)

-- no handler of a conditional jump is led to
pub jumps_quietly : (s : PlanScope) (plan : Plan) (routes : Routes) (at : ℕ) (point : Point) (route : Route) (class : ℕ) (instr : Instr)
    → IsRouted s plan routes
    → slice_get s.flat.points at ≡ Some point
    → slice_get routes at ≡ Some (Some route)
    → point.instr ≡ Of class instr
    → is_some (opposite_instr instr) ≡ true
    → catches_at at point route ≡ []
jumps_quietly s plan routes at point route class instr routed is_point is_route is_instr jumps =
    catches_none at route 0 point.handlers none where
      found : IsRouteOf s plan at at route
      found =
          let all = route_of s 0 plan routes at route routed is_route in
          record { point = all.point; reached = all.reached; is = subst (λ (n : ℕ). IsRoute s n all.point route) (omega arith) all.is }

      throws : (row_of_point s at point).throws ≡ None
      throws = rw is_instr (none_thrown s at point.typed class instr (turning instr) jumps)

      are : AreEdges s point at (state_left found.point) (open_edges s at point (state_left found.point)) found.is.effect
      are = subst (λ (at_it : Option Point). IsEffectIn s at at_it (state_left found.point) found.is.effect) is_point found.is.is_effect

      none : (n : ℕ) → edge_by route (edges.Handler n) ≡ None
      none n =
          none_caught s point at (state_left found.point) (open_edges s at point (state_left found.point)) found.is.effect found.point.edges route.edges n
          are found.is.edges
          (all_still IsNotCaught (λ (edge : RowEdge). is_open (state_left found.point) edge.guard) (edges_of at point (row_of_point s at point))
          (rows_not_caught at point (row_of_point s at point) throws))
