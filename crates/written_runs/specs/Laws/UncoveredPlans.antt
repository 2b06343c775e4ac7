-- In a valid plan no stack entry whose type is Top stands above one whose object is made, at a point or on an edge.
use Rattle.std.proofs.Common.{◌≡◌, ◌≤◌, ◌⊎◌, inl, inr, ◌+◌, ◌++◌, ℕ, zero, suc, Bool, true, false, List, [], ◌∷◌, drop, length, slice_get, Option, Some, None, IsTrue, refl, sym, ap, subst, ◌∙◌, arith, eq-eqb}
use Rattle.std.specs.List.{list_any}
use Rattle.std.proofs.lemmas.Bool.{false≢true, true≢false}
use Rattle.std.proofs.lemmas.Option.{none-some, same_Some, slice_get_within}
use Rattle.class_model.specs.Frames.{is_top}
use Rattle.class_model.specs.declared.frame.VType.{VType}
use Rattle.class_model.specs.declared.frame.VType.TheVariants.{Top}
use Rattle.flow_code.specs.FlatCode.{point_at}
use Rattle.flow_code.specs.declared.point.Point.{Point}
use Rattle.plan_flow.specs.Effect.{AreEdges, IsEffectIn, IsStateBehind}
use Rattle.plan_flow.specs.Must.{IsMustIn, IsMustOf, beneath, open_edges, row_of_point}
use Rattle.plan_flow.specs.PlanRows.{Change, PlanRow, RowEdge, Source, from_field, from_new, from_place, plain_value}
use Rattle.plan_flow.specs.PlanScope.{PlanScope, field_number, local_types, stack_types}
use Rattle.plan_flow.specs.PlanSlots.{beneath_top, edge_locals, edge_stack, field_in, field_of_slot, fit_locals, fit_stack, held, is_open, readable, slot_from, slots_from}
use Rattle.plan_flow.specs.PlanSlots.{local_slots as edge_local_slots, stack_slots as edge_stack_slots}
use Rattle.plan_flow.specs.PlanTable.{edges_of}
use Rattle.plan_flow.specs.Plans.{HasPlainBeneathTop, IsValidAt, MadeEdge, Plan, PlannedPoint, state_left}
use Rattle.plan_flow.specs.Written.Routes.{AreEdgeRoutes, IsRoute, Route, RouteEdge}
use Rattle.plan_flow.specs.declared.edge.Edge.{Edge}
use Rattle.virtual_state.specs.Sites.{has}
use Rattle.virtual_state.specs.States.{IsState, State, is_present, is_virtual, names, object_of}
use Rattle.virtual_state.specs.declared.slot.Slot.{Slot}
use Rattle.virtual_state.specs.declared.slot.Slot.TheVariants.{Plain, Virt, Unusable}
use Rattle.virtual_state.specs.declared.slot.VObject.{VObject}
use Rattle.written_runs.specs.Laws.LessVirtual.{WasIn, was_in}
use Rattle.written_runs.specs.Laws.Making.InOrder.{named_at}
use Rattle.written_runs.specs.Laws.Uncovered.{IsUncovered}
use Rattle.written_runs.specs.VirtualObjects.{stack_slots}

-- An object that an instruction makes comes to lie on top of the stack.
pub record GivesOnTop (s : PlanScope) : Type 0 where
  pub each : (at number place : ℕ) (point : Point) (edge : RowEdge)
      → point_at s.flat at ≡ Some point
      → slice_get (edges_of at point (row_of_point s at point)) number ≡ Some edge
      → slice_get (edge_stack (row_of_point s at point) edge.by) place ≡ Some from_new
      → length (stack_types s.flat edge.to) ≤ suc place

-- ---- entries at or below one whose type is Top

any_top : (types : List VType) (place : ℕ) → slice_get types place ≡ Some Top → list_any is_top types ≡ true
any_top [] place is = absurd (none-some Top is)
any_top (type ∷ types) zero is = let here : is_top type ≡ true = ap is_top (same_Some type Top is) in rw (here) refl
any_top (type ∷ types) (suc place) is = by (is_top type) refl (any_top types place is) where
  by : (b : Bool) → is_top type ≡ b → list_any is_top types ≡ true → list_any is_top (type ∷ types) ≡ true
  by true e rest = rw (e) refl
  by false e rest = rw (e) rest

named_beneath : (types : List VType) (slots : List Slot) (place more site : ℕ)
    → slice_get slots place ≡ Some (Virt site)
    → slice_get types (place + more) ≡ Some Top
    → names (beneath_top types slots) site ≡ true
named_beneath [] slots place more site is top = absurd (none-some Top top)
named_beneath (type ∷ types) [] place more site is top = absurd (none-some (Virt site) is)
named_beneath (type ∷ types) (slot ∷ slots) zero more site is top =
    let any = any_top (type ∷ types) (zero + more) top in
    let here : is_virtual site slot ≡ true = ap (is_virtual site) (same_Some slot (Virt site) is) ∙ eq-eqb site site refl in
    rw (any, here) refl
named_beneath (type ∷ types) (slot ∷ slots) (suc place) more site is top =
    let any = any_top (type ∷ types) (suc place + more) top in
    rw (any) (by (is_virtual site slot) refl (named_beneath types slots place more site is behind)) where
      behind : slice_get types (place + more) ≡ Some Top
      behind =
          let next : suc place + more ≡ suc (place + more) = omega arith in
          sym (ap (slice_get (type ∷ types)) next) ∙ top

      by : (b : Bool) → is_virtual site slot ≡ b → names (beneath_top types slots) site ≡ true → names (slot ∷ beneath_top types slots) site ≡ true
      by true e rest = rw (e) refl
      by false e rest = rw (e) rest

-- ---- a point

pub uncovered_at : (s : PlanScope) (at : ℕ) (point : Point) (state : State) (made : List ℕ)
    → point_at s.flat at ≡ Some point
    → HasPlainBeneathTop s at state
    → IsUncovered point.typed.stack (stack_slots point state) made
uncovered_at s at point state made is_point plain = record {
  each = λ place more site is among top.
      let next : suc (place + more) ≡ place + suc more = omega arith in
      true≢false (sym (named_beneath point.typed.stack (stack_slots point state) place (suc more) site is
      (sym (ap (slice_get point.typed.stack) next) ∙ top)) ∙ same site ∙ plain.each site);
} where
  same : (site : ℕ)
      → names (beneath_top point.typed.stack (stack_slots point state)) site
      ≡ names (beneath_top (stack_types s.flat at) (drop (length (local_types s.flat at)) state.slots)) site
  same site = rw (is_point) refl

-- ---- an edge

-- what a slot of an edge's stack comes from
record HasSource (s : PlanScope) (state : State) (becomes : Change) (sources : List Source) (place site : ℕ) : Type 0 where
  pub source : Source
  pub is_source : slice_get sources place ≡ Some source
  pub gives : slot_from s state becomes source ≡ Virt site

has_source : (s : PlanScope) (state : State) (by : Change) (types : List VType) (sources : List Source) (place site : ℕ)
    → slice_get (fit_stack types (slots_from s state by sources)) place ≡ Some (Virt site)
    → HasSource s state by sources place site
has_source s state by [] sources place site is = absurd (none-some (Virt site) is)
has_source s state by (type ∷ types) [] zero site is =
    let same : Plain ≡ Virt site = same_Some Plain (Virt site) is in absurd cc
has_source s state by (type ∷ types) [] (suc place) site is =
    let rest = has_source s state by types [] place site is in absurd (none-some rest.source rest.is_source)
has_source s state by (type ∷ types) (source ∷ sources) zero site is =
    record { source = source; is_source = refl; gives = same_Some (slot_from s state by source) (Virt site) is }
has_source s state by (type ∷ types) (source ∷ sources) (suc place) site is =
    let rest = has_source s state by types sources place site is in
    record { source = rest.source; is_source = rest.is_source; gives = rest.gives }

readable_is : (slot : Option Slot) (site : ℕ) → readable slot ≡ Virt site → slot ≡ Some (Virt site)
readable_is None site is = absurd cc
readable_is (Some Plain) site is = absurd cc
readable_is (Some (Virt one)) site is = ap Some is
readable_is (Some Unusable) site is = absurd cc

-- it is present, or it is what the instruction makes
comes_from : (s : PlanScope) (state : State) (becomes : Change) (source : Source) (site : ℕ)
    → IsState state
    → slot_from s state becomes source ≡ Virt site
    → (source ≡ from_new) ⊎ IsTrue (is_present state.objects site)
comes_from s state becomes plain_value site is gives = absurd cc
comes_from s state becomes (from_place place) site is gives =
    inr (is.places site (named_at state.slots place site (readable_is (slice_get state.slots place) site gives)))
comes_from s state becomes (from_field place field) site is gives = by (held state place) gives where
  in_object : (into : ℕ) (found : Option VObject) (at : Option ℕ) → object_of state.objects into ≡ found → field_in found at ≡ Virt site
      → IsTrue (is_present state.objects site)
  in_object into None at there told = absurd cc
  in_object into (Some object) None there told = absurd cc
  in_object into (Some object) (Some at) there told =
      is.fields into site (record {
        object = object;
        there = there;
        named = named_at object.fields at site (readable_is (slice_get object.fields at) site told);
      })

  by : (slot : Slot) → field_of_slot s state slot field ≡ Virt site → (from_field place field ≡ from_new) ⊎ IsTrue (is_present state.objects site)
  by Plain told = absurd cc
  by (Virt into) told = inr (in_object into (object_of state.objects into) (field_number s into field) refl told)
  by Unusable told = absurd cc
comes_from s state becomes from_new site is gives = inl refl

-- the row of an edge
record HasRow (s : PlanScope) (at : ℕ) (point : Point) (before : State) (rows : List RowEdge) (edge : RouteEdge) : Type 0 where
  pub number : ℕ
  pub row : RowEdge
  pub is_row : slice_get rows number ≡ Some row
  pub to : edge.to ≡ row.to
  pub behind : IsStateBehind s point at before row edge.state

has_row : (s : PlanScope) (at : ℕ) (point : Point) (before : State) (rows : List RowEdge) (effect : List Edge) (plans : List MadeEdge)
    (routes : List RouteEdge) (number : ℕ) (edge : RouteEdge)
    → AreEdges s point at before rows effect
    → AreEdgeRoutes effect plans routes
    → slice_get routes number ≡ Some edge
    → HasRow s at point before rows edge
has_row s at point before [] [] [] [] number edge are routed is = absurd (none-some edge is)
has_row s at point before [] [] [] (route ∷ routes) number edge are routed is = absurd routed
has_row s at point before [] [] (plan ∷ plans) routes number edge are routed is = absurd routed
has_row s at point before [] (one ∷ effect) plans routes number edge are routed is = absurd are
has_row s at point before (row ∷ rows) [] plans routes number edge are routed is = absurd are
has_row s at point before (row ∷ rows) (one ∷ effect) [] routes number edge are routed is = absurd routed
has_row s at point before (row ∷ rows) (one ∷ effect) (plan ∷ plans) [] number edge are routed is = absurd routed
has_row s at point before (row ∷ rows) (one ∷ effect) (plan ∷ plans) (route ∷ routes) zero edge are routed is =
    subst (HasRow s at point before (row ∷ rows)) (same_Some route edge is) (record {
      number = 0;
      row = row;
      is_row = refl;
      to = routed.0.to ∙ are.1;
      behind = subst (IsStateBehind s point at before row) (sym routed.0.state) are.2;
    })
has_row s at point before (row ∷ rows) (one ∷ effect) (plan ∷ plans) (route ∷ routes) (suc number) edge are routed is =
    let rest = has_row s at point before rows effect plans routes number edge are.3 routed.1 is in
    record { number = suc rest.number; row = rest.row; is_row = rest.is_row; to = rest.to; behind = rest.behind }

length_fit : (types : List VType) (slots : List Slot) → length (fit_locals types slots) ≡ length types
length_fit [] slots = refl
length_fit (type ∷ types) [] = ap suc (length_fit types [])
length_fit (type ∷ types) (slot ∷ slots) = ap suc (length_fit types slots)

drop_front : (front back : List Slot) → drop (length front) (front ++ back) ≡ back
drop_front [] back = refl
drop_front (slot ∷ front) back = drop_front front back

pub uncovered_along : (s : PlanScope) (plan : Plan) (at : ℕ) (before : Point) (planned_at : PlannedPoint) (route : Route) (number : ℕ)
    (edge : RouteEdge) (point : Point) (made : List ℕ)
    → GivesOnTop s
    → IsState (state_left planned_at)
    → IsValidAt s plan at planned_at
    → IsRoute s at planned_at route
    → point_at s.flat at ≡ Some before
    → slice_get route.edges number ≡ Some edge
    → point_at s.flat edge.to ≡ Some point
    → IsUncovered point.typed.stack (stack_slots point edge.state) made
uncovered_along s plan at before planned_at route number edge point made on_top is_state valid is_route is_before is_edge is_point =
    record { each = each } where
      left : State
      left = state_left planned_at

      row_here : PlanRow
      row_here = row_of_point s at before

      found : HasRow s at before left (open_edges s at before left) edge
      found =
          has_row s at before left (open_edges s at before left) is_route.effect planned_at.edges route.edges number edge
          (subst (λ (p : Option Point). IsEffectIn s at p left is_route.effect) is_before is_route.is_effect) is_route.edges is_edge

      is_target : point_at s.flat found.row.to ≡ Some point
      is_target = ap (point_at s.flat) (sym found.to) ∙ is_point

      types_are : stack_types s.flat found.row.to ≡ point.typed.stack
      types_are = rw (is_target) refl

      locals_are : length (edge_local_slots s left row_here (length before.typed.locals) found.row) ≡ length point.typed.locals
      locals_are =
          length_fit (local_types s.flat found.row.to) (slots_from s left row_here.change
          (edge_locals row_here (length before.typed.locals) found.row.by))
          ∙ (rw (is_target) refl)

      slots_are : stack_slots point edge.state ≡ edge_stack_slots s left row_here found.row
      slots_are =
          ap (drop (length point.typed.locals)) found.behind.is.same_slots
          ∙ ap (λ (n : ℕ). drop n (edge_local_slots s left row_here (length before.typed.locals) found.row
          ++ edge_stack_slots s left row_here found.row)) (sym locals_are)
          ∙ drop_front (edge_local_slots s left row_here (length before.typed.locals) found.row) (edge_stack_slots s left row_here found.row)

      must : IsMustOf s at before left []
      must = subst (λ (p : Option Point). IsMustIn s at p left []) is_before valid.asks_none

      open_row : WasIn (λ (one : RowEdge). is_open left one.guard) (edges_of at before row_here) found.row
      open_row = was_in (λ (one : RowEdge). is_open left one.guard) (edges_of at before row_here) found.number found.row found.is_row

      each : (place more site : ℕ)
          → slice_get (stack_slots point edge.state) place ≡ Some (Virt site)
          → IsTrue (has made site)
          → slice_get point.typed.stack (suc (place + more)) ≡ Some Top
          → ⊥
      each place more site is among top =
          elim (comes_from s left row_here.change source.source site is_state source.gives) [
            | inl new ↦
                let low = on_top.each at open_row.number place before found.row is_before open_row.is_there (source.is_source ∙ ap Some new) in
                let within = slice_get_within (stack_types s.flat found.row.to) (suc (place + more)) Top top_there in
                absurd (omega (arith, low, within))
            | inr present ↦
                let next : place + suc more ≡ suc (place + more) = omega arith in
                absurd (false≢true (must.asked site (beneath found.number found.row site found.is_row
                (named_beneath (stack_types s.flat found.row.to) (edge_stack_slots s left row_here found.row) place (suc more) site is_there
                (ap (slice_get (stack_types s.flat found.row.to)) next ∙ top_there)) present)))
          ] where
            is_there : slice_get (edge_stack_slots s left row_here found.row) place ≡ Some (Virt site)
            is_there = ap (λ (slots : List Slot). slice_get slots place) (sym slots_are) ∙ is

            top_there : slice_get (stack_types s.flat found.row.to) (suc (place + more)) ≡ Some Top
            top_there = ap (λ (types : List VType). slice_get types (suc (place + more))) types_are ∙ top

            source : HasSource s left row_here.change (edge_stack row_here found.row.by) place site
            source =
                has_source s left row_here.change (stack_types s.flat found.row.to) (edge_stack row_here found.row.by) place site is_there
