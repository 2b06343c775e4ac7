-- What an instruction leaves in a state is below what it leaves where more is made.
use Rattle.std.proofs.Common.{◌≡◌, ℕ, zero, suc, Bool, List, [], ◌∷◌, ◌++◌, length, slice_get, Option, Some, None, IsTrue, refl, sym, ap, subst, ◌∙◌, inl, inr}
use Rattle.std.proofs.lemmas.Bool.{cases_Bool, false≢true}
use Rattle.std.proofs.lemmas.List.{map-append}
use Rattle.std.proofs.lemmas.Option.{same_Some, none-some}
use Rattle.flow_code.specs.FlatCode.{point_at}
use Rattle.flow_code.specs.declared.point.Point.{Point}
use Rattle.plan_flow.specs.Effect.{IsStateBehind, AreEdges, IsEffect, IsEffectIn}
use Rattle.plan_flow.specs.Must.{row_of_point, open_edges, CannotBePut, AsksFor, IsAsked, by_position, IsMustOf, IsMust, IsMustIn}
use Rattle.plan_flow.specs.Orders.{AreCovered}
use Rattle.plan_flow.specs.PlanRows.{Change, no_change, new_object, put_field, enter_monitor, leave_monitor, Position, object_put_into, object_of_site, PlanRow, RowEdge}
use Rattle.plan_flow.specs.PlanScope.{PlanScope, local_types, stack_types}
use Rattle.plan_flow.specs.PlanSlots.{slots_from, fit_locals, fit_stack, edge_locals, edge_stack, edge_objects, local_slots, stack_slots}
use Rattle.plan_flow.specs.PlanTable.{change_asks}
use Rattle.plan_flow.specs.declared.edge.Edge.{Edge}
use Rattle.plan_flow.specs.declared.edge.EdgeKind.{EdgeKind}
use Rattle.plan_flow.specs.declared.edge.EdgeKind.TheVariants.{Next, Jump, Handler}
use Rattle.virtual_state.specs.Making.{IsStateOf}
use Rattle.virtual_state.specs.Orders.{IsBelow}
use Rattle.virtual_state.specs.Sites.{has}
use Rattle.virtual_state.specs.States.{State, is_present}
use Rattle.virtual_state.specs.Without.{IsClosed, made_plain, objects_without, without}
use Rattle.virtual_state.specs.declared.slot.Slot.{Slot}
use Rattle.virtual_state.specs.declared.slot.VObject.{VObject}
use Rattle.virtual_state.specs.Laws.Fields.{made, plain_slot}
use Rattle.plan_flow.proofs.Moving.{KeepsNew, held_made, slots_made, fit_locals_made, fit_stack_made}
use Rattle.plan_flow.proofs.Changing.{PutsWithin, changed_closed, edge_objects_made}
use Rattle.plan_flow.proofs.MustGrows.{StandsIn, behind_first, held_still, edge_behind_more}
use Rattle.plan_flow.proofs.Pruning.{state_of_is_one, state_of_below}

-- ---- edges and their rows

-- an edge of an effect, with its row
pub record EdgeOf (s : PlanScope) (point : Point) (at : ℕ) (before : State) (row : RowEdge) (edge : Edge) : Type 0 where
  pub same_by : edge.by ≡ row.by
  pub same_to : edge.to ≡ row.to
  pub behind : IsStateBehind s point at before row edge.state

pub row_of_edge :
    (s : PlanScope) (point : Point) (at : ℕ) (before : State) (rows : List RowEdge) (edges : List Edge)
    → AreEdges s point at before rows edges
    → (number : ℕ) (edge : Edge)
    → slice_get edges number ≡ Some edge
    → (row : RowEdge) × (slice_get rows number ≡ Some row) × EdgeOf s point at before row edge
row_of_edge s point at before [] [] are number edge is = absurd (none-some edge is)
row_of_edge s point at before [] (one ∷ edges) are number edge is = absurd are
row_of_edge s point at before (row ∷ rows) [] are number edge is = absurd are
row_of_edge s point at before (row ∷ rows) (one ∷ edges) are zero edge is =
    (row, refl, subst (EdgeOf s point at before row) (same_Some one edge is) (record { same_by = are.0; same_to = are.1; behind = are.2 }))
row_of_edge s point at before (row ∷ rows) (one ∷ edges) are (suc number) edge is = row_of_edge s point at before rows edges are.3 number edge is

pub edge_of_row :
    (s : PlanScope) (point : Point) (at : ℕ) (before : State) (rows : List RowEdge) (edges : List Edge)
    → AreEdges s point at before rows edges
    → (number : ℕ) (row : RowEdge)
    → slice_get rows number ≡ Some row
    → (edge : Edge) × (slice_get edges number ≡ Some edge) × EdgeOf s point at before row edge
edge_of_row s point at before [] [] are number row is = absurd (none-some row is)
edge_of_row s point at before [] (one ∷ edges) are number row is = absurd are
edge_of_row s point at before (first ∷ rows) [] are number row is = absurd are
edge_of_row s point at before (first ∷ rows) (one ∷ edges) are zero row is =
    (one, refl, subst (λ (row : RowEdge). EdgeOf s point at before row one) (same_Some first row is) (record { same_by = are.0; same_to = are.1; behind = are.2 }))
edge_of_row s point at before (first ∷ rows) (one ∷ edges) are (suc number) row is = edge_of_row s point at before rows edges are.3 number row is

-- an effect is one
pub edges_are_one :
    (s : PlanScope) (point : Point) (at : ℕ) (before : State) (rows : List RowEdge) (edges also : List Edge)
    → AreEdges s point at before rows edges
    → AreEdges s point at before rows also
    → edges ≡ also
edges_are_one s point at before [] [] [] one other = refl
edges_are_one s point at before [] [] (edge ∷ also) one other = absurd other
edges_are_one s point at before [] (edge ∷ edges) also one other = absurd one
edges_are_one s point at before (row ∷ rows) [] also one other = absurd one
edges_are_one s point at before (row ∷ rows) (edge ∷ edges) [] one other = absurd other
edges_are_one s point at before (row ∷ rows) (edge ∷ edges) (more ∷ also) one other =
    let same_state = state_of_is_one (local_slots s before (row_of_point s at point) (length point.typed.locals) row ++ stack_slots s before (row_of_point s at point) row) (edge_objects s before (row_of_point s at point) row.by) edge.state more.state one.2.is_state other.2.is_state one.2.is other.2.is in
    let same_by : edge.by ≡ more.by = one.0 ∙ sym other.0 in
    let same_to : edge.to ≡ more.to = one.1 ∙ sym other.1 in
    let rest = edges_are_one s point at before rows edges also one.3 other.3 in
    λ i. record { to = same_to i; by = same_by i; state = same_state i } ∷ rest i

-- ---- positions of a change

pub stands_behind : {A : Type 0} (front : List A) (item : A) (rest : List A) → StandsIn (front ++ item ∷ rest) item
stands_behind [] item rest = record { number = 0; is = refl }
stands_behind (first ∷ front) item rest = behind_first first (front ++ item ∷ rest) item (stands_behind front item rest)

-- what asks for nothing, asks for no object
pub asks_nothing :
    (s : PlanScope) (at : ℕ) (point : Point) (state : State)
    → IsMustOf s at point state []
    → (site : ℕ)
    → IsAsked s at point state site → ⊥
asks_nothing s at point state must site asked = false≢true (must.asked site asked)

pub change_asked :
    (s : PlanScope) (at : ℕ) (point : Point) (state : State) (position : Position) (site : ℕ)
    → change_asks (row_of_point s at point).change ≡ position ∷ []
    → AsksFor s state position site
    → IsAsked s at point state site
change_asked s at point state position site is asks =
    let row = row_of_point s at point in
    let stands = subst (λ list. StandsIn (row.asks ++ list) position) (sym is) (stands_behind row.asks position []) in
    by_position stands.number position site stands.is asks

keeps_new :
    (s : PlanScope) (at : ℕ) (point : Point) (low : State) (away : ℕ → Bool)
    → IsMustOf s at point low []
    → ((site : ℕ) → IsTrue (away site) → IsTrue (is_present low.objects site))
    → KeepsNew away (row_of_point s at point).change
keeps_new s at point low away must there = go (row_of_point s at point).change refl where
  go : (by : Change) → (row_of_point s at point).change ≡ by → KeepsNew away by
  go no_change is = tt
  go (put_field place field value) is = tt
  go (enter_monitor place) is = tt
  go (leave_monitor place) is = tt
  go (new_object site) is = elim (cases_Bool (away site)) [
    | inl gone ↦ absurd (asks_nothing s at point low must site (change_asked s at point low (object_of_site site) site (ap change_asks is) (refl, there site gone)))
    | inr kept ↦ kept
  ]

puts_within :
    (s : PlanScope) (at : ℕ) (point : Point) (low : State) (away : ℕ → Bool)
    → IsMustOf s at point (without low away) []
    → PutsWithin away low (row_of_point s at point).change
puts_within s at point low away must = go (row_of_point s at point).change refl where
  go : (by : Change) → (row_of_point s at point).change ≡ by → PutsWithin away low by
  go no_change is = tt
  go (new_object site) is = tt
  go (enter_monitor place) is = tt
  go (leave_monitor place) is = tt
  go (put_field place field value) is = λ site to object put gone. elim (cases_Bool (away to)) [
    | inl also ↦ also
    | inr kept ↦
        let plain = held_made away low place ∙ ap (made_plain away) object ∙ plain_slot away site gone in
        let cannot = subst (CannotBePut (without low away) to) (sym plain) tt in
        absurd (asks_nothing s at point (without low away) must to
        (change_asked s at point (without low away) (object_put_into value place) to (ap change_asks is) (held_still away low value to kept put, cannot)))
  ]

-- ---- one edge

closed_behind :
    (s : PlanScope) (state : State) (away : ℕ → Bool) (row : PlanRow) (by : EdgeKind)
    → IsClosed away state.objects
    → PutsWithin away state row.change
    → IsClosed away (edge_objects s state row by)
closed_behind s state away row (Handler number) closed within = closed
closed_behind s state away row Next closed within = changed_closed s state away row.change closed within
closed_behind s state away row (Jump number) closed within = changed_closed s state away row.change closed within

slots_behind :
    (s : PlanScope) (state : State) (away : ℕ → Bool) (row : PlanRow) (count : ℕ) (edge : RowEdge)
    → IsClosed away state.objects
    → KeepsNew away row.change
    → local_slots s (without state away) row count edge ++ stack_slots s (without state away) row edge
    ≡ made away (local_slots s state row count edge ++ stack_slots s state row edge)
slots_behind s state away row count edge closed keeps =
    let locals = ap (fit_locals (local_types s.flat edge.to)) (slots_made s state away row.change closed keeps (edge_locals row count edge.by)) ∙ fit_locals_made away (local_types s.flat edge.to) (slots_from s state row.change (edge_locals row count edge.by)) in
    let stack = ap (fit_stack (stack_types s.flat edge.to)) (slots_made s state away row.change closed keeps (edge_stack row edge.by)) ∙ fit_stack_made away (stack_types s.flat edge.to) (slots_from s state row.change (edge_stack row edge.by)) in
    (λ i. locals i ++ stack i)
    ∙ sym (map-append (made_plain away) (local_slots s state row count edge) (stack_slots s state row edge))

pub behind_below :
    (s : PlanScope) (at : ℕ) (point : Point) (low : State) (away : ℕ → Bool) (edge : RowEdge) (one other : State)
    → IsClosed away low.objects
    → ((site : ℕ) → IsTrue (away site) → IsTrue (is_present low.objects site))
    → IsMustOf s at point low []
    → IsMustOf s at point (without low away) []
    → IsStateBehind s point at low edge one
    → IsStateBehind s point at (without low away) edge other
    → IsBelow one other
behind_below s at point low away edge one other closed there low_must high_must low_behind high_behind =
    let row = row_of_point s at point in
    let keeps = keeps_new s at point low away low_must there in
    let slots = local_slots s low row (length point.typed.locals) edge ++ stack_slots s low row edge in
    let same_slots = slots_behind s low away row (length point.typed.locals) edge closed keeps in
    let same_objects = edge_objects_made s low away row edge.by keeps in
    let moved = subst (λ (objects : List VObject). IsStateOf (local_slots s (without low away) row (length point.typed.locals) edge ++ stack_slots s (without low away) row edge) objects other) same_objects high_behind.is in
    let of_high = subst (λ (list : List Slot). IsStateOf list (objects_without away (edge_objects s low row edge.by)) other) same_slots moved in
    state_of_below away slots (edge_objects s low row edge.by) one other low_behind.is_state high_behind.is_state
    (closed_behind s low away row edge.by closed (puts_within s at point low away high_must)) low_behind.is of_high

-- ---- all edges

covered_behind :
    (s : PlanScope) (at : ℕ) (point : Point) (low : State) (away : ℕ → Bool) (edges also : List Edge)
    → IsClosed away low.objects
    → ((site : ℕ) → IsTrue (away site) → IsTrue (is_present low.objects site))
    → IsMustOf s at point low []
    → IsMustOf s at point (without low away) []
    → AreEdges s point at low (open_edges s at point low) edges
    → AreEdges s point at (without low away) (open_edges s at point (without low away)) also
    → AreCovered edges also
covered_behind s at point low away edges also closed there low_must high_must low_edges high_edges = record {
  each = λ number edge is.
      let row = row_of_edge s point at low (open_edges s at point low) edges low_edges number edge is in
      let stands = edge_behind_more s at point low away number row.0 row.1 in
      let over = edge_of_row s point at (without low away) (open_edges s at point (without low away)) also high_edges stands.number row.0 stands.is in
      record {
        number = stands.number;
        also = over.0;
        is = over.1;
        same_by = row.2.same_by ∙ sym over.2.same_by;
        same_to = row.2.same_to ∙ sym over.2.same_to;
        below = behind_below s at point low away row.0 edge.state over.0.state closed there low_must high_must row.2.behind over.2.behind;
      };
}

pub effect_covered :
    (s : PlanScope) (at : ℕ) (low high : State) (edges also : List Edge)
    → IsBelow low high
    → IsMust s at low []
    → IsMust s at high []
    → IsEffect s at low edges
    → IsEffect s at high also
    → AreCovered edges also
effect_covered s at low high edges also below low_must high_must low_edges high_edges =
    go (point_at s.flat at) low_must (subst (λ (state : State). IsMust s at state []) below.is high_must) low_edges (subst (λ (state : State). IsEffect s at state also) below.is high_edges) where
      go :
          (found : Option Point)
          → IsMustIn s at found low []
          → IsMustIn s at found (without low (has below.sites)) []
          → IsEffectIn s at found low edges
          → IsEffectIn s at found (without low (has below.sites)) also
          → AreCovered edges also
      go None low_must high_must low_edges high_edges = record { each = λ number edge is. absurd (none-some edge (subst (λ (list : List Edge). slice_get list number ≡ Some edge) low_edges is)) }
      go (Some point) low_must high_must low_edges high_edges = covered_behind s at point low (has below.sites) edges also below.closed below.there low_must high_must low_edges high_edges

pub effect_is_one :
    (s : PlanScope) (at : ℕ) (state : State) (edges also : List Edge)
    → IsEffect s at state edges
    → IsEffect s at state also
    → edges ≡ also
effect_is_one s at state edges also one other = go (point_at s.flat at) one other where
  go : (found : Option Point) → IsEffectIn s at found state edges → IsEffectIn s at found state also → edges ≡ also
  go None one other = one ∙ sym other
  go (Some point) one other = edges_are_one s point at state (open_edges s at point state) edges also one other
