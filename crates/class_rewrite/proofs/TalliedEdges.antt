-- What is made on the edges of a point: on that to the next point, on those of jumps, and on those to handlers.
use Rattle.std.proofs.Common.{if◌then◌else◌, ◌≡◌, ◌+◌, ℕ, Bool, true, false, List, [], ◌∷◌, ◌++◌, filter, map, Option, Some, None, refl, sym, ap, subst, ◌∙◌, arith}
use Rattle.std.specs.List.{AllByRecursion, find, flat_map}
use Rattle.class_rewrite.proofs.TalliedItems.{on_place}
use Rattle.class_rewrite.proofs.Tallies.{tally, tally_both}
use Rattle.class_tree.specs.Headers.{Name}
use Rattle.flow_code.specs.declared.handlers.FlatHandler.{FlatHandler}
use Rattle.flow_code.specs.declared.point.Point.{Point}
use Rattle.plan_flow.specs.Effect.{AreEdges}
use Rattle.plan_flow.specs.Laws.WrittenBlocks.{holds_of_both}
use Rattle.plan_flow.specs.PlanRows.{Guard, PlanRow, RowEdge}
use Rattle.plan_flow.specs.PlanScope.{PlanScope}
use Rattle.plan_flow.specs.PlanTable.{edges_of, falls_on, handler_edges, jump_edges, next_edges, targets_at, thrown_edges}
use Rattle.plan_flow.specs.Plans.{MadeEdge}
use Rattle.plan_flow.specs.Written.Places.{edge_places, handler_pad_places, jump_pad_places, made_places}
use Rattle.plan_flow.specs.Written.Routes.{AreEdgeRoutes, RouteEdge, is_kind}
use Rattle.plan_flow.specs.declared.edge.Edge.{Edge}
use Rattle.plan_flow.specs.declared.edge.EdgeKind.{EdgeKind}
use Rattle.plan_flow.specs.declared.edge.EdgeKind.TheVariants as edges
use Rattle.virtual_state.specs.States.{State}

-- ---- kinds

abbrev pub is_next : EdgeKind → Bool
is_next by = is_kind by edges.Next

abbrev pub is_jump : EdgeKind → Bool
is_jump edges.Next = false
is_jump (edges.Jump number) = true
is_jump (edges.Handler number) = false

abbrev pub is_handler : EdgeKind → Bool
is_handler edges.Next = false
is_handler (edges.Jump number) = false
is_handler (edges.Handler number) = true

abbrev pub is_first : EdgeKind → Bool
is_first by = is_kind by (edges.Jump 0)

abbrev pub kinds : List RouteEdge → List EdgeKind
kinds all = map (λ edge. edge.by) all

abbrev pub row_kinds : List RowEdge → List EdgeKind
row_kinds rows = map (λ row. row.by) rows

abbrev pub NoneOf : (EdgeKind → Bool) → List EdgeKind → Type 0
NoneOf test all = AllByRecursion (λ kind. test kind ≡ false) all

-- no two pass a test
abbrev pub AtMost : (EdgeKind → Bool) → List EdgeKind → Type 0
AtMost test [] = Unit {0}
AtMost test (kind ∷ all) = (test kind ≡ true → NoneOf test all) × AtMost test all

front_at_most : (test : EdgeKind → Bool) (left right : List EdgeKind) → AtMost test left → NoneOf test right → AtMost test (left ++ right)
front_at_most test [] right one none = none_at_most right none where
  none_at_most : (all : List EdgeKind) → NoneOf test all → AtMost test all
  none_at_most [] none = tt
  none_at_most (kind ∷ all) none = (λ passes. none.1, none_at_most all none.1)
front_at_most test (kind ∷ left) right one none = (
  λ passes. holds_of_both (λ kind. test kind ≡ false) left right (one.0 passes) none,
  front_at_most test left right one.1 none,
)

back_at_most : (test : EdgeKind → Bool) (left right : List EdgeKind) → NoneOf test left → AtMost test right → AtMost test (left ++ right)
back_at_most test [] right none one = one
back_at_most test (kind ∷ left) right none one = (
  λ passes. absurd (differ (test kind) passes none.0),
  back_at_most test left right none.1 one,
) where
  differ : (b : Bool) → b ≡ true → b ≡ false → ⊥
  differ true is also = absurd (cc also)
  differ false is also = absurd (cc is)

-- ---- the kinds of a row's edges

all_jumps : (P : EdgeKind → Type 0) (row : PlanRow) (number : ℕ) (targets : List ℕ) → ((n : ℕ) → P (edges.Jump n))
    → AllByRecursion P (row_kinds (jump_edges row number targets))
all_jumps P row number [] each = tt
all_jumps P row number (to ∷ targets) each = (each number, all_jumps P row (number + 1) targets each)

all_handlers : (P : EdgeKind → Type 0) (guard : Guard) (number : ℕ) (handlers : List FlatHandler) → ((n : ℕ) → P (edges.Handler n))
    → AllByRecursion P (row_kinds (handler_edges guard number handlers))
all_handlers P guard number [] each = tt
all_handlers P guard number (handler ∷ handlers) each = (each number, all_handlers P guard (number + 1) handlers each)

all_thrown : (P : EdgeKind → Type 0) (throws : Option Guard) (handlers : List FlatHandler) → ((n : ℕ) → P (edges.Handler n))
    → AllByRecursion P (row_kinds (thrown_edges throws handlers))
all_thrown P None handlers each = tt
all_thrown P (Some guard) handlers each = all_handlers P guard 0 handlers each

all_next : (P : EdgeKind → Type 0) (at : ℕ) (row : PlanRow) (falls : Bool) → P edges.Next → AllByRecursion P (row_kinds (next_edges at row falls))
all_next P at row true here = (here, tt)
all_next P at row false here = tt

next_at_most : (at : ℕ) (row : PlanRow) (falls : Bool) → AtMost is_next (row_kinds (next_edges at row falls))
next_at_most at row true = (λ passes. tt, tt)
next_at_most at row false = tt

kinds_both : (left right : List RowEdge) → row_kinds (left ++ right) ≡ row_kinds left ++ row_kinds right
kinds_both [] right = refl
kinds_both (row ∷ left) right = ap (λ (rest : List EdgeKind). row.by ∷ rest) (kinds_both left right)

module _ (at : ℕ) (point : Point) (row : PlanRow) where
  abbrev next : List RowEdge
  next = next_edges at row (falls_on point.instr)

  abbrev jumps : List RowEdge
  jumps = jump_edges row 0 (targets_at point.instr)

  abbrev thrown : List RowEdge
  thrown = thrown_edges row.throws point.handlers

  three_kinds : row_kinds (edges_of at point row) ≡ (row_kinds next ++ row_kinds jumps) ++ row_kinds thrown
  three_kinds = kinds_both (next ++ jumps) thrown ∙ ap (λ (first : List EdgeKind). first ++ row_kinds thrown) (kinds_both next jumps)

  pub one_next_row : AtMost is_next (row_kinds (edges_of at point row))
  one_next_row =
      subst (AtMost is_next) (sym three_kinds)
      (front_at_most is_next (row_kinds next ++ row_kinds jumps) (row_kinds thrown)
      (front_at_most is_next (row_kinds next) (row_kinds jumps) (next_at_most at row (falls_on point.instr))
      (all_jumps (λ kind. is_next kind ≡ false) row 0 (targets_at point.instr) (λ n. refl)))
      (all_thrown (λ kind. is_next kind ≡ false) row.throws point.handlers (λ n. refl)))

  -- where there is one target
  module _ (to : ℕ) (one : targets_at point.instr ≡ to ∷ []) where
    pub one_first_row : AtMost is_first (row_kinds (edges_of at point row))
    one_first_row =
        subst (AtMost is_first) (sym three_kinds)
        (front_at_most is_first (row_kinds next ++ row_kinds jumps) (row_kinds thrown)
        (back_at_most is_first (row_kinds next) (row_kinds jumps) (all_next (λ kind. is_first kind ≡ false) at row (falls_on point.instr) refl)
        (subst (λ (targets : List ℕ). AtMost is_first (row_kinds (jump_edges row 0 targets))) (sym one) (λ passes. tt, tt)))
        (all_thrown (λ kind. is_first kind ≡ false) row.throws point.handlers (λ n. refl)))

    pub first_row : AllByRecursion (λ kind. is_first kind ≡ is_jump kind) (row_kinds (edges_of at point row))
    first_row =
        subst (AllByRecursion (λ kind. is_first kind ≡ is_jump kind)) (sym three_kinds)
        (holds_of_both (λ kind. is_first kind ≡ is_jump kind) (row_kinds next ++ row_kinds jumps) (row_kinds thrown)
        (holds_of_both (λ kind. is_first kind ≡ is_jump kind) (row_kinds next) (row_kinds jumps)
        (all_next (λ kind. is_first kind ≡ is_jump kind) at row (falls_on point.instr) refl)
        (subst (λ (targets : List ℕ). AllByRecursion (λ kind. is_first kind ≡ is_jump kind) (row_kinds (jump_edges row 0 targets))) (sym one) (refl, tt)))
        (all_thrown (λ kind. is_first kind ≡ is_jump kind) row.throws point.handlers (λ n. refl)))

-- ---- those that are open, and those of a route

pub kinds_kept : (P : EdgeKind → Type 0) (test : RowEdge → Bool) (rows : List RowEdge)
    → AllByRecursion P (row_kinds rows)
    → AllByRecursion P (row_kinds (filter test rows))
kinds_kept P test [] all = tt
kinds_kept P test (row ∷ rows) all = by (test row) refl (kinds_kept P test rows all.1) where
  by : (kept : Bool) → test row ≡ kept → AllByRecursion P (row_kinds (filter test rows)) → AllByRecursion P (row_kinds (filter test (row ∷ rows)))
  by true told rest = rw (told) (all.0, rest)
  by false told rest = rw (told) rest

pub at_most_kept : (on : EdgeKind → Bool) (test : RowEdge → Bool) (rows : List RowEdge)
    → AtMost on (row_kinds rows)
    → AtMost on (row_kinds (filter test rows))
at_most_kept on test [] all = tt
at_most_kept on test (row ∷ rows) all = by (test row) refl (at_most_kept on test rows all.1) where
  by : (kept : Bool) → test row ≡ kept → AtMost on (row_kinds (filter test rows)) → AtMost on (row_kinds (filter test (row ∷ rows)))
  by true told rest = rw (told) (λ passes. kinds_kept (λ kind. on kind ≡ false) test rows (all.0 passes), rest)
  by false told rest = rw (told) rest

pub same_kinds : (s : PlanScope) (point : Point) (at : ℕ) (before : State) (rows : List RowEdge) (effect : List Edge) (plans : List MadeEdge)
    (routes : List RouteEdge)
    → AreEdges s point at before rows effect
    → AreEdgeRoutes effect plans routes
    → row_kinds rows ≡ kinds routes
same_kinds s point at before [] [] [] [] are also = refl
same_kinds s point at before [] [] [] (route ∷ routes) are also = absurd also
same_kinds s point at before [] [] (plan ∷ plans) routes are also = absurd also
same_kinds s point at before [] (edge ∷ effect) plans routes are also = absurd are
same_kinds s point at before (row ∷ rows) [] plans routes are also = absurd are
same_kinds s point at before (row ∷ rows) (edge ∷ effect) [] routes are also = absurd also
same_kinds s point at before (row ∷ rows) (edge ∷ effect) (plan ∷ plans) [] are also = absurd also
same_kinds s point at before (row ∷ rows) (edge ∷ effect) (plan ∷ plans) (route ∷ routes) are also =
    ap (λ (kind : EdgeKind). kind ∷ row_kinds rows) (sym (also.0.by ∙ are.0))
    ∙ ap (λ (rest : List EdgeKind). route.by ∷ rest) (same_kinds s point at before rows effect plans routes are.3 also.1)

-- ---- how many

module _ (s : PlanScope) (on : Name → Bool) where
  abbrev pub weight : RouteEdge → ℕ
  weight edge = tally (on_place on) (made_places s edge.state edge.order)

  abbrev pub weights : List RouteEdge → ℕ
  weights [] = 0
  weights (edge ∷ all) = weight edge + weights all

  -- of those whose kinds pass a test
  abbrev pub weights_of : (EdgeKind → Bool) → List RouteEdge → ℕ
  weights_of test [] = 0
  weights_of test (edge ∷ all) = (if test edge.by then weight edge else 0) + weights_of test all

  pub by_kinds : (all : List RouteEdge) → weights all ≡ weights_of is_next all + weights_of is_jump all + weights_of is_handler all
  by_kinds [] = omega arith
  by_kinds (edge ∷ all) = by edge.by refl (by_kinds all) where
    by : (kind : EdgeKind) → edge.by ≡ kind
        → weights all ≡ weights_of is_next all + weights_of is_jump all + weights_of is_handler all
        → weights (edge ∷ all) ≡ weights_of is_next (edge ∷ all) + weights_of is_jump (edge ∷ all) + weights_of is_handler (edge ∷ all)
    by edges.Next is rest = rw (is) (omega (arith, rest))
    by (edges.Jump number) is rest = rw (is) (omega (arith, rest))
    by (edges.Handler number) is rest = rw (is) (omega (arith, rest))

  pub handlers_tallied : (all : List RouteEdge)
      → tally (on_place on) (flat_map (λ edge. handler_pad_places s edge edge.by) all) ≡ weights_of is_handler all
  handlers_tallied [] = refl
  handlers_tallied (edge ∷ all) =
      let both = tally_both (on_place on) (handler_pad_places s edge edge.by) (flat_map (λ edge. handler_pad_places s edge edge.by) all) in
      let here = by edge edge.by in
      let rest = handlers_tallied all in
      omega (arith, both, here, rest)
    where
      by : (one : RouteEdge) (kind : EdgeKind) → tally (on_place on) (handler_pad_places s one kind) ≡ (if is_handler kind then weight one else 0)
      by one edges.Next = refl
      by one (edges.Jump number) = refl
      by one (edges.Handler number) = refl

  abbrev pub of_jumps : Bool → List RouteEdge → ℕ
  of_jumps true all = 0
  of_jumps false all = weights_of is_jump all

  pub jumps_tallied : (decided : Bool) (all : List RouteEdge)
      → tally (on_place on) (flat_map (λ edge. jump_pad_places s decided edge edge.by) all) ≡ of_jumps decided all
  jumps_tallied true [] = refl
  jumps_tallied false [] = refl
  jumps_tallied true (edge ∷ all) =
      let both = tally_both (on_place on) (jump_pad_places s true edge edge.by) (flat_map (λ edge. jump_pad_places s true edge edge.by) all) in
      let here = by edge edge.by in
      let rest = jumps_tallied true all in
      omega (arith, both, here, rest)
    where
      by : (one : RouteEdge) (kind : EdgeKind) → tally (on_place on) (jump_pad_places s true one kind) ≡ 0
      by one edges.Next = refl
      by one (edges.Jump number) = refl
      by one (edges.Handler number) = refl
  jumps_tallied false (edge ∷ all) =
      let both = tally_both (on_place on) (jump_pad_places s false edge edge.by) (flat_map (λ edge. jump_pad_places s false edge edge.by) all) in
      let here = by edge edge.by in
      let rest = jumps_tallied false all in
      omega (arith, both, here, rest)
    where
      by : (one : RouteEdge) (kind : EdgeKind) → tally (on_place on) (jump_pad_places s false one kind) ≡ (if is_jump kind then weight one else 0)
      by one edges.Next = refl
      by one (edges.Jump number) = refl
      by one (edges.Handler number) = refl

  none_weighed : (test : EdgeKind → Bool) (all : List RouteEdge) → NoneOf test (kinds all) → weights_of test all ≡ 0
  none_weighed test [] none = refl
  none_weighed test (edge ∷ all) none =
      let rest = none_weighed test all none.1 in
      rw (none.0) (omega (arith, rest))

  -- the only one that passes a test is the first
  pub found_tallied : (test : EdgeKind → Bool) (all : List RouteEdge) → AtMost test (kinds all)
      → tally (on_place on) (edge_places s (find (λ edge. test edge.by) all)) ≡ weights_of test all
  found_tallied test [] one = refl
  found_tallied test (edge ∷ all) one = by (test edge.by) refl (found_tallied test all one.1) (λ told. none_weighed test all (one.0 told)) where
    by : (here : Bool) → test edge.by ≡ here
        → tally (on_place on) (edge_places s (find (λ edge. test edge.by) all)) ≡ weights_of test all
        → (test edge.by ≡ true → weights_of test all ≡ 0)
        → tally (on_place on) (edge_places s (find (λ edge. test edge.by) (edge ∷ all))) ≡ weights_of test (edge ∷ all)
    by true told rest none = let no_more = none told in rw (told) (omega (arith, no_more))
    by false told rest none = rw (told) (omega (arith, rest))

  pub weighed_alike : (one other : EdgeKind → Bool) (all : List RouteEdge) → AllByRecursion (λ kind. one kind ≡ other kind) (kinds all)
      → weights_of one all ≡ weights_of other all
  weighed_alike one other [] same = refl
  weighed_alike one other (edge ∷ all) same =
      let rest = weighed_alike one other all same.1 in
      rw (same.0) (omega (arith, rest))
