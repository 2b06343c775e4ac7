-- Where control may go on from a reached point: each edge of the point's row that is open in the state there is one of its route, with the state
-- behind it.
use Rattle.std.proofs.Common.{◌≡◌, ◌+◌, ◌++◌, ℕ, zero, suc, Bool, true, false, List, [], ◌∷◌, filter, slice_get, Option, Some, None, refl, sym, ap, subst, ◌∙◌, arith}
use Rattle.std.specs.List.{AllByRecursion, find}
use Rattle.std.proofs.lemmas.Bool.{eq-eqb, eqb-true, false≢true}
use Rattle.std.proofs.lemmas.Option.{none-some, same_Some}
use Rattle.flow_code.specs.declared.handlers.FlatHandler.{FlatHandler}
use Rattle.flow_code.specs.declared.point.Point.{Point}
use Rattle.plan_flow.specs.Effect.{AreEdges, IsEffectIn, IsStateBehind}
use Rattle.plan_flow.specs.Laws.WrittenBlocks.{holds_of_both}
use Rattle.plan_flow.specs.Must.{open_edges, row_of_point}
use Rattle.plan_flow.specs.PlanRows.{Guard, PlanRow, RowEdge}
use Rattle.plan_flow.specs.PlanScope.{PlanScope}
use Rattle.plan_flow.specs.PlanSlots.{is_open}
use Rattle.plan_flow.specs.PlanTable.{edges_of, falls_on, handler_edges, jump_edges, next_edges, targets_at, thrown_edges}
use Rattle.plan_flow.specs.Plans.{MadeEdge}
use Rattle.plan_flow.specs.Written.Routes.{AreEdgeRoutes, Route, RouteEdge, edge_by, is_kind}
use Rattle.plan_flow.specs.declared.edge.Edge.{Edge}
use Rattle.plan_flow.specs.declared.edge.EdgeKind.{EdgeKind}
use Rattle.plan_flow.specs.declared.edge.EdgeKind.TheVariants as edges
use Rattle.virtual_state.specs.States.{State}

-- ---- lists

-- what passes a test stays where a list is filtered
pub still_in : {A : Type 0} (test : A → Bool) (items : List A) (number : ℕ) (item : A)
    → slice_get items number ≡ Some item
    → test item ≡ true
    → (place : ℕ) × (slice_get (filter test items) place ≡ Some item)
still_in test [] number item is passes = absurd (none-some item is)
still_in test (first ∷ items) zero item is passes =
    let told = ap test (same_Some first item is) ∙ passes in (0, rw (told) is)
still_in test (first ∷ items) (suc number) item is passes =
    by (test first) refl (still_in test items number item is passes) where
      by : (kept : Bool)
          → test first ≡ kept
          → (place : ℕ) × (slice_get (filter test items) place ≡ Some item)
          → (place : ℕ) × (slice_get (filter test (first ∷ items)) place ≡ Some item)
      by true told rest = (suc rest.0, rw (told) rest.1)
      by false told rest = (rest.0, rw (told) rest.1)

pub all_still : {A : Type 0} (P : A → Type 0) (test : A → Bool) (items : List A)
    → AllByRecursion P items
    → AllByRecursion P (filter test items)
all_still P test [] all = tt
all_still P test (first ∷ items) all = by (test first) refl (all_still P test items all.1) where
  by : (kept : Bool) → test first ≡ kept → AllByRecursion P (filter test items) → AllByRecursion P (filter test (first ∷ items))
  by true told rest = rw (told) (all.0, rest)
  by false told rest = rw (told) rest

-- ---- edges of routes are those of rows

-- an edge of a route is that of a row's edge
pub record IsOfRow (s : PlanScope) (point : Point) (at : ℕ) (before : State) (row : RowEdge) (edge : RouteEdge) : Type 0 where
  pub by : edge.by ≡ row.by
  pub to : edge.to ≡ row.to
  pub state : IsStateBehind s point at before row edge.state

abbrev AreOfRows : PlanScope → Point → ℕ → State → List RowEdge → List RouteEdge → Type 0
AreOfRows s point at before [] [] = Unit {0}
AreOfRows s point at before (row ∷ rows) (edge ∷ routes) =
    IsOfRow s point at before row edge × AreOfRows s point at before rows routes
AreOfRows s point at before rows routes = ⊥

module _ (s : PlanScope) (point : Point) (at : ℕ) (before : State) where
  of_rows : (rows : List RowEdge) (effect : List Edge) (plans : List MadeEdge) (routes : List RouteEdge)
      → AreEdges s point at before rows effect
      → AreEdgeRoutes effect plans routes
      → AreOfRows s point at before rows routes
  of_rows [] [] [] [] are also = tt
  of_rows [] [] [] (route ∷ routes) are also = absurd also
  of_rows [] [] (plan ∷ plans) routes are also = absurd also
  of_rows [] (edge ∷ effect) plans routes are also = absurd are
  of_rows (row ∷ rows) [] plans routes are also = absurd are
  of_rows (row ∷ rows) (edge ∷ effect) [] routes are also = absurd also
  of_rows (row ∷ rows) (edge ∷ effect) (plan ∷ plans) [] are also = absurd also
  of_rows (row ∷ rows) (edge ∷ effect) (plan ∷ plans) (route ∷ routes) are also = (
    record {
      by = also.0.by ∙ are.0;
      to = also.0.to ∙ are.1;
      state = subst (IsStateBehind s point at before row) (sym also.0.state) are.2;
    },
    of_rows rows effect plans routes are.3 also.1,
  )

  -- the first edge of a kind is that of a row, where each row of the kind is this one
  abbrev Only : EdgeKind → RowEdge → RowEdge → Type 0
  Only kind row one = is_kind one.by kind ≡ true → one ≡ row

  first_of_kind : (kind : EdgeKind) (row : RowEdge) (rows : List RowEdge) (routes : List RouteEdge) (number : ℕ)
      → AreOfRows s point at before rows routes
      → AllByRecursion (Only kind row) rows
      → slice_get rows number ≡ Some row
      → is_kind row.by kind ≡ true
      → (edge : RouteEdge) × (find (λ one. is_kind one.by kind) routes ≡ Some edge) × IsOfRow s point at before row edge
  first_of_kind kind row [] routes number are only is told = absurd (none-some row is)
  first_of_kind kind row (first ∷ rows) [] number are only is told = absurd are
  first_of_kind kind row (first ∷ rows) (edge ∷ routes) number are only is told =
      by (is_kind edge.by kind) refl number is (λ more rest. first_of_kind kind row rows routes more are.1 only.1 rest told) where
        of_first : is_kind first.by kind ≡ is_kind edge.by kind
        of_first = ap (λ (k : EdgeKind). is_kind k kind) (sym are.0.by)

        by : (here : Bool)
            → is_kind edge.by kind ≡ here
            → (place : ℕ)
            → slice_get (first ∷ rows) place ≡ Some row
            → ((more : ℕ)
            → slice_get rows more ≡ Some row
            → (found : RouteEdge) × (find (λ one. is_kind one.by kind) routes ≡ Some found) × IsOfRow s point at before row found)
            → (found : RouteEdge) × (find (λ one. is_kind one.by kind) (edge ∷ routes) ≡ Some found) × IsOfRow s point at before row found
        by true here place there rest = (
          edge,
          rw (here) refl,
          subst (λ (r : RowEdge). IsOfRow s point at before r edge) (only.0 (of_first ∙ here)) are.0,
        )
        by false here zero there rest =
            absurd (false≢true (sym here ∙ sym of_first ∙ ap (λ (r : RowEdge). is_kind r.by kind) (same_Some first row there) ∙ told))
        by false here (suc place) there rest = let found = rest place there in (found.0, rw (here) found.1, found.2)

-- ---- rows of one kind

-- a jump edge is that of one of the targets
record IsJump (r : PlanRow) (number : ℕ) (targets : List ℕ) (one : RowEdge) : Type 0 where
  target : ℕ
  to : ℕ
  is_target : slice_get targets target ≡ Some to
  is : one ≡ record { by = edges.Jump (number + target); to = to; guard = r.jump }

jump_behind : (r : PlanRow) (number first : ℕ) (targets : List ℕ) (rows : List RowEdge)
    → AllByRecursion (IsJump r (number + 1) targets) rows
    → AllByRecursion (IsJump r number (first ∷ targets)) rows
jump_behind r number first targets [] all = tt
jump_behind r number first targets (row ∷ rows) all = (
  let next : number + 1 + all.0.target ≡ number + suc all.0.target = omega arith in
      record {
        target = suc all.0.target;
        to = all.0.to;
        is_target = all.0.is_target;
        is = all.0.is ∙ ap (λ (n : ℕ). record { by = edges.Jump n; to = all.0.to; guard = r.jump }) next;
      },
  jump_behind r number first targets rows all.1,
)

jumps_are : (r : PlanRow) (number : ℕ) (targets : List ℕ) → AllByRecursion (IsJump r number targets) (jump_edges r number targets)
jumps_are r number [] = tt
jumps_are r number (to ∷ targets) = (
  let here : number ≡ number + 0 = omega arith in
      record {
        target = 0;
        to = to;
        is_target = refl;
        is = ap (λ (n : ℕ). record { by = edges.Jump n; to = to; guard = r.jump }) here;
      },
  jump_behind r number to targets (jump_edges r (number + 1) targets) (jumps_are r (number + 1) targets),
)

-- a handler edge that of one of the handlers
record IsHandling (guard : Guard) (number : ℕ) (handlers : List FlatHandler) (one : RowEdge) : Type 0 where
  place : ℕ
  handler : FlatHandler
  is_handler : slice_get handlers place ≡ Some handler
  is : one ≡ record { by = edges.Handler (number + place); to = handler.to; guard = guard }

handling_behind : (guard : Guard) (number : ℕ) (first : FlatHandler) (handlers : List FlatHandler) (rows : List RowEdge)
    → AllByRecursion (IsHandling guard (number + 1) handlers) rows
    → AllByRecursion (IsHandling guard number (first ∷ handlers)) rows
handling_behind guard number first handlers [] all = tt
handling_behind guard number first handlers (row ∷ rows) all = (
  let next : number + 1 + all.0.place ≡ number + suc all.0.place = omega arith in
      record {
        place = suc all.0.place;
        handler = all.0.handler;
        is_handler = all.0.is_handler;
        is = all.0.is ∙ ap (λ (n : ℕ). record { by = edges.Handler n; to = all.0.handler.to; guard = guard }) next;
      },
  handling_behind guard number first handlers rows all.1,
)

handlers_are : (guard : Guard) (number : ℕ) (handlers : List FlatHandler)
    → AllByRecursion (IsHandling guard number handlers) (handler_edges guard number handlers)
handlers_are guard number [] = tt
handlers_are guard number (handler ∷ handlers) = (
  let here : number ≡ number + 0 = omega arith in
      record {
        place = 0;
        handler = handler;
        is_handler = refl;
        is = ap (λ (n : ℕ). record { by = edges.Handler n; to = handler.to; guard = guard }) here;
      },
  handling_behind guard number handler handlers (handler_edges guard (number + 1) handlers) (handlers_are guard (number + 1) handlers),
)

all_map : (P Q : RowEdge → Type 0) (rows : List RowEdge) → ((row : RowEdge) → P row → Q row) → AllByRecursion P rows → AllByRecursion Q rows
all_map P Q [] each all = tt
all_map P Q (row ∷ rows) each all = (each row all.0, all_map P Q rows each all.1)

-- ---- where they stand

in_left : {A : Type 0} (left right : List A) (number : ℕ) (item : A) → slice_get left number ≡ Some item → slice_get (left ++ right) number ≡ Some item
in_left [] right number item is = absurd (none-some item is)
in_left (first ∷ left) right zero item is = is
in_left (first ∷ left) right (suc number) item is = in_left left right number item is

in_right : {A : Type 0} (left right : List A) (number : ℕ) (item : A)
    → slice_get right number ≡ Some item
    → (place : ℕ) × (slice_get (left ++ right) place ≡ Some item)
in_right [] right number item is = (number, is)
in_right (first ∷ left) right number item is = let rest = in_right left right number item is in (suc rest.0, rest.1)

jump_there : (r : PlanRow) (number : ℕ) (targets : List ℕ) (target to : ℕ)
    → slice_get targets target ≡ Some to
    → slice_get (jump_edges r number targets) target ≡ Some (record { by = edges.Jump (number + target); to = to; guard = r.jump })
jump_there r number [] target to is = absurd (none-some to is)
jump_there r number (first ∷ targets) zero to is =
    let here : number ≡ number + 0 = omega arith in
    ap (λ (t : ℕ). Some (record { by = edges.Jump number; to = t; guard = r.jump })) (same_Some first to is)
    ∙ ap (λ (n : ℕ). Some (record { by = edges.Jump n; to = to; guard = r.jump })) here
jump_there r number (first ∷ targets) (suc target) to is =
    let next : number + 1 + target ≡ number + suc target = omega arith in
    jump_there r (number + 1) targets target to is
    ∙ ap (λ (n : ℕ). Some (record { by = edges.Jump n; to = to; guard = r.jump })) next

handler_there : (guard : Guard) (number : ℕ) (handlers : List FlatHandler) (place : ℕ) (handler : FlatHandler)
    → slice_get handlers place ≡ Some handler
    → slice_get (handler_edges guard number handlers) place
    ≡ Some (record { by = edges.Handler (number + place); to = handler.to; guard = guard })
handler_there guard number [] place handler is = absurd (none-some handler is)
handler_there guard number (first ∷ handlers) zero handler is =
    let here : number ≡ number + 0 = omega arith in
    ap (λ (h : FlatHandler). Some (record { by = edges.Handler number; to = h.to; guard = guard })) (same_Some first handler is)
    ∙ ap (λ (n : ℕ). Some (record { by = edges.Handler n; to = handler.to; guard = guard })) here
handler_there guard number (first ∷ handlers) (suc place) handler is =
    let next : number + 1 + place ≡ number + suc place = omega arith in
    handler_there guard (number + 1) handlers place handler is
    ∙ ap (λ (n : ℕ). Some (record { by = edges.Handler n; to = handler.to; guard = guard })) next

-- ---- the edges of a point

-- an edge of the point's row, and that of the route
pub record OpenEdge (s : PlanScope) (point : Point) (at : ℕ) (before : State) (route : Route) (row : RowEdge) : Type 0 where
  pub edge : RouteEdge
  pub found : edge_by route row.by ≡ Some edge
  pub is : IsOfRow s point at before row edge
  pub number : ℕ
  pub is_there : slice_get (edges_of at point (row_of_point s at point)) number ≡ Some row

module _ (s : PlanScope) (point : Point) (at : ℕ) (before : State) (effect : List Edge) (plans : List MadeEdge) (route : Route)
    (is_effect : IsEffectIn s at (Some point) before effect) (are : AreEdgeRoutes effect plans route.edges) where
  abbrev r : PlanRow
  r = row_of_point s at point

  abbrev nexts : List RowEdge
  nexts = next_edges at r (falls_on point.instr)

  abbrev jumps : List RowEdge
  jumps = jump_edges r 0 (targets_at point.instr)

  abbrev thrown : List RowEdge
  thrown = thrown_edges r.throws point.handlers

  -- an edge of a row that is open is one of the route
  abbrev HasOpen : RowEdge → Type 0
  HasOpen row = OpenEdge s point at before route row

  abbrev HasEdge : RowEdge → Type 0
  HasEdge row = (edge : RouteEdge) × (edge_by route row.by ≡ Some edge) × IsOfRow s point at before row edge

  without_place : (row : RowEdge) → HasOpen row → HasEdge row
  without_place row has = (has.edge, has.found, has.is)

  is_its_kind : (kind : EdgeKind) → is_kind kind kind ≡ true
  is_its_kind edges.Next = refl
  is_its_kind (edges.Jump number) = eq-eqb number number refl
  is_its_kind (edges.Handler number) = eq-eqb number number refl

  has_open : (row : RowEdge) (number : ℕ)
      → AllByRecursion (Only s point at before row.by row) ((nexts ++ jumps) ++ thrown)
      → slice_get ((nexts ++ jumps) ++ thrown) number ≡ Some row
      → is_open before row.guard ≡ true
      → HasOpen row
  has_open row number only is opens =
      let there = still_in (λ (one : RowEdge). is_open before one.guard) ((nexts ++ jumps) ++ thrown) number row is opens in
      let first = first_of_kind s point at before row.by row (open_edges s at point before) route.edges there.0
      (of_rows s point at before (open_edges s at point before) effect plans route.edges is_effect are)
      (all_still (Only s point at before row.by row) (λ (one : RowEdge). is_open before one.guard) ((nexts ++ jumps) ++ thrown) only) there.1
      (is_its_kind row.by) in
      record { edge = first.0; found = first.1; is = first.2; number = number; is_there = is }

  -- ---- the next point

  abbrev next_row : RowEdge
  next_row = record { by = edges.Next; to = at + 1; guard = r.next }

  only_next : AllByRecursion (Only s point at before edges.Next next_row) ((nexts ++ jumps) ++ thrown)
  only_next =
      holds_of_both (Only s point at before edges.Next next_row) (nexts ++ jumps) thrown
      (holds_of_both (Only s point at before edges.Next next_row) nexts jumps (of_next (falls_on point.instr))
      (all_map (IsJump r 0 (targets_at point.instr)) (Only s point at before edges.Next next_row) jumps of_jump (jumps_are r 0 (targets_at point.instr))))
      (of_thrown r.throws) where
        of_next : (falls : Bool) → AllByRecursion (Only s point at before edges.Next next_row) (next_edges at r falls)
        of_next true = (λ told. refl, tt)
        of_next false = tt

        of_jump : (row : RowEdge) → IsJump r 0 (targets_at point.instr) row → Only s point at before edges.Next next_row row
        of_jump row jump told = absurd (false≢true (sym (ap (λ (one : RowEdge). is_kind one.by edges.Next) jump.is) ∙ told))

        of_handler : (guard : Guard) (row : RowEdge) → IsHandling guard 0 point.handlers row → Only s point at before edges.Next next_row row
        of_handler guard row handling told = absurd (false≢true (sym (ap (λ (one : RowEdge). is_kind one.by edges.Next) handling.is) ∙ told))

        of_thrown : (throws : Option Guard) → AllByRecursion (Only s point at before edges.Next next_row) (thrown_edges throws point.handlers)
        of_thrown None = tt
        of_thrown (Some guard) =
            all_map (IsHandling guard 0 point.handlers) (Only s point at before edges.Next next_row) (handler_edges guard 0 point.handlers)
            (of_handler guard) (handlers_are guard 0 point.handlers)

  pub next_open : falls_on point.instr ≡ true → is_open before r.next ≡ true → HasOpen next_row
  next_open falls opens =
      has_open next_row 0 only_next
      (in_left (nexts ++ jumps) thrown 0 next_row
      (in_left nexts jumps 0 next_row (ap (λ (b : Bool). slice_get (next_edges at r b) 0) falls))) opens

  pub next_edge : falls_on point.instr ≡ true → is_open before r.next ≡ true → HasEdge next_row
  next_edge falls opens = without_place next_row (next_open falls opens)

  -- ---- a target

  abbrev jump_row : ℕ → ℕ → RowEdge
  jump_row target to = record { by = edges.Jump target; to = to; guard = r.jump }

  pub jump_open : (target to : ℕ) → slice_get (targets_at point.instr) target ≡ Some to → is_open before r.jump ≡ true → HasOpen (jump_row target to)
  jump_open target to is_target opens = has_open row there.0 only there.1 opens where
    row : RowEdge
    row = jump_row target to

    One : RowEdge → Type 0
    One = Only s point at before (edges.Jump target) row

    same_row : (other also : ℕ) → target ≡ other → slice_get (targets_at point.instr) other ≡ Some also
        → record { by = edges.Jump (0 + other); to = also; guard = r.jump } ≡ row
    same_row other also same is =
        let same_to : also ≡ to = same_Some also to (sym is ∙ ap (slice_get (targets_at point.instr)) (sym same) ∙ is_target) in
        let number : 0 + other ≡ target = omega (arith, same) in
        ap (λ (n : ℕ). record { by = edges.Jump n; to = also; guard = r.jump }) number
        ∙ ap (λ (t : ℕ). record { by = edges.Jump target; to = t; guard = r.jump }) same_to

    of_jump : (one : RowEdge) → IsJump r 0 (targets_at point.instr) one → One one
    of_jump one jump told =
        let number : 0 + jump.target ≡ target =
        eqb-true (0 + jump.target) target (sym (ap (λ (e : RowEdge). is_kind e.by (edges.Jump target)) jump.is) ∙ told) in
        jump.is ∙ same_row jump.target jump.to (omega (arith, number)) jump.is_target

    of_next : (falls : Bool) → AllByRecursion One (next_edges at r falls)
    of_next true = (λ told. absurd (false≢true told), tt)
    of_next false = tt

    of_handler : (guard : Guard) (one : RowEdge) → IsHandling guard 0 point.handlers one → One one
    of_handler guard one handling told =
        absurd (false≢true (sym (ap (λ (e : RowEdge). is_kind e.by (edges.Jump target)) handling.is) ∙ told))

    of_thrown : (throws : Option Guard) → AllByRecursion One (thrown_edges throws point.handlers)
    of_thrown None = tt
    of_thrown (Some guard) =
        all_map (IsHandling guard 0 point.handlers) One (handler_edges guard 0 point.handlers) (of_handler guard) (handlers_are guard 0 point.handlers)

    only : AllByRecursion One ((nexts ++ jumps) ++ thrown)
    only =
        holds_of_both One (nexts ++ jumps) thrown
        (holds_of_both One nexts jumps (of_next (falls_on point.instr))
        (all_map (IsJump r 0 (targets_at point.instr)) One jumps of_jump (jumps_are r 0 (targets_at point.instr)))) (of_thrown r.throws)

    there : (place : ℕ) × (slice_get ((nexts ++ jumps) ++ thrown) place ≡ Some row)
    there =
        let zeroth : 0 + target ≡ target = omega arith in
        let here = in_right nexts jumps target row
        (jump_there r 0 (targets_at point.instr) target to is_target
        ∙ ap (λ (n : ℕ). Some (record { by = edges.Jump n; to = to; guard = r.jump })) zeroth) in
        (here.0, in_left (nexts ++ jumps) thrown here.0 row here.1)

  pub jump_edge : (target to : ℕ) → slice_get (targets_at point.instr) target ≡ Some to → is_open before r.jump ≡ true → HasEdge (jump_row target to)
  jump_edge target to is_target opens = without_place (jump_row target to) (jump_open target to is_target opens)

  -- ---- a handler

  abbrev handler_row : Guard → ℕ → FlatHandler → RowEdge
  handler_row guard place handler = record { by = edges.Handler place; to = handler.to; guard = guard }

  pub handler_open : (guard : Guard) (place : ℕ) (handler : FlatHandler)
      → r.throws ≡ Some guard
      → slice_get point.handlers place ≡ Some handler
      → is_open before guard ≡ true
      → HasOpen (handler_row guard place handler)
  handler_open guard place handler throws is_handler opens = has_open row there.0 only there.1 opens where
    row : RowEdge
    row = handler_row guard place handler

    One : RowEdge → Type 0
    One = Only s point at before (edges.Handler place) row

    same_row : (other : ℕ) (also : FlatHandler) → place ≡ other → slice_get point.handlers other ≡ Some also
        → record { by = edges.Handler (0 + other); to = also.to; guard = guard } ≡ row
    same_row other also same is =
        let same_handler : also ≡ handler = same_Some also handler (sym is ∙ ap (slice_get point.handlers) (sym same) ∙ is_handler) in
        let number : 0 + other ≡ place = omega (arith, same) in
        ap (λ (n : ℕ). record { by = edges.Handler n; to = also.to; guard = guard }) number
        ∙ ap (λ (h : FlatHandler). record { by = edges.Handler place; to = h.to; guard = guard }) same_handler

    of_handler : (one : RowEdge) → IsHandling guard 0 point.handlers one → One one
    of_handler one handling told =
        let number : 0 + handling.place ≡ place =
        eqb-true (0 + handling.place) place (sym (ap (λ (e : RowEdge). is_kind e.by (edges.Handler place)) handling.is) ∙ told) in
        handling.is ∙ same_row handling.place handling.handler (omega (arith, number)) handling.is_handler

    of_next : (falls : Bool) → AllByRecursion One (next_edges at r falls)
    of_next true = (λ told. absurd (false≢true told), tt)
    of_next false = tt

    of_jump : (one : RowEdge) → IsJump r 0 (targets_at point.instr) one → One one
    of_jump one jump told = absurd (false≢true (sym (ap (λ (e : RowEdge). is_kind e.by (edges.Handler place)) jump.is) ∙ told))

    only : AllByRecursion One ((nexts ++ jumps) ++ thrown)
    only =
        holds_of_both One (nexts ++ jumps) thrown
        (holds_of_both One nexts jumps (of_next (falls_on point.instr))
        (all_map (IsJump r 0 (targets_at point.instr)) One jumps of_jump (jumps_are r 0 (targets_at point.instr))))
        (subst (λ (found : Option Guard). AllByRecursion One (thrown_edges found point.handlers)) (sym throws)
        (all_map (IsHandling guard 0 point.handlers) One (handler_edges guard 0 point.handlers) of_handler (handlers_are guard 0 point.handlers)))

    there : (number : ℕ) × (slice_get ((nexts ++ jumps) ++ thrown) number ≡ Some row)
    there =
        let zeroth : 0 + place ≡ place = omega arith in
        in_right (nexts ++ jumps) thrown place row
        (ap (λ (found : Option Guard). slice_get (thrown_edges found point.handlers) place) throws
        ∙ handler_there guard 0 point.handlers place handler is_handler
        ∙ ap (λ (n : ℕ). Some (record { by = edges.Handler n; to = handler.to; guard = guard })) zeroth)

  pub handler_edge : (guard : Guard) (place : ℕ) (handler : FlatHandler)
      → r.throws ≡ Some guard
      → slice_get point.handlers place ≡ Some handler
      → is_open before guard ≡ true
      → HasEdge (handler_row guard place handler)
  handler_edge guard place handler throws is_handler opens =
      without_place (handler_row guard place handler) (handler_open guard place handler throws is_handler opens)
