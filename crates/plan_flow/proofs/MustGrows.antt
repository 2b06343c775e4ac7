-- What an instruction asks in a state, it asks where more is made, or it is made there.
use Rattle.std.proofs.Common.{◌≡◌, ℕ, zero, suc, Bool, true, false, cond, List, [], ◌∷◌, slice_get, Option, Some, None, IsTrue, IsFalse, refl, sym, ap, subst, ◌∙◌, inl, inr}
use Rattle.std.specs.List.{list_any, filter}
use Rattle.std.specs.Option.{option_map}
use Rattle.std.proofs.lemmas.Bool.{cases_Bool, or_cases, or_left, or_right, both_ways}
use Rattle.class_model.specs.Frames.{is_top}
use Rattle.class_model.specs.declared.frame.VType.{VType}
use Rattle.flow_code.specs.declared.point.Point.{Point}
use Rattle.plan_flow.specs.Must.{row_of_point, open_edges, CannotBePut, AsksFor, IsAsked, by_position, beneath}
use Rattle.plan_flow.specs.PlanRows.{Source, plain_value, from_place, from_field, from_new, Change, Position, any_object, object_put_into, object_not_below, object_at_depth, object_of_site, RowEdge}
use Rattle.plan_flow.specs.PlanScope.{PlanScope, stack_types}
use Rattle.plan_flow.specs.PlanSlots.{held, field_of_slot, slot_from, slots_from, is_open, fit_stack, edge_stack, beneath_top}
use Rattle.plan_flow.specs.PlanTable.{edges_of}
use Rattle.virtual_state.specs.States.{State, IsPath, one_edge, edge_and_path, object_of, is_virtual, names}
use Rattle.virtual_state.specs.Without.{IsClosed, made_plain, object_without, objects_without, without}
use Rattle.virtual_state.specs.declared.slot.Slot.{Slot}
use Rattle.virtual_state.specs.declared.slot.Slot.TheVariants.{Plain, Virt, Unusable}
use Rattle.virtual_state.specs.declared.slot.VObject.{VObject}
use Rattle.virtual_state.specs.Laws.Fields.{plain_slot, kept_slot}
use Rattle.virtual_state.specs.Laws.Removals.{stays, present_behind, edge_behind}
use Rattle.plan_flow.proofs.Moving.{held_made, field_made, open_more, virtual_itself}
use Rattle.plan_flow.proofs.Changing.{virtual_is}

-- ---- lists

pub record StandsIn {A : Type 0} (items : List A) (item : A) : Type 0 where
  pub number : ℕ
  pub is : slice_get items number ≡ Some item

pub behind_first : {A : Type 0} (first : A) (items : List A) (item : A) → StandsIn items item → StandsIn (first ∷ items) item
behind_first first items item stands = record { number = suc stands.number; is = stands.is }

-- what passes a test passes a weaker one
pub filter_more :
    {A : Type 0} (one other : A → Bool) (items : List A)
    → ((item : A) → IsTrue (one item) → IsTrue (other item))
    → (number : ℕ) (item : A)
    → slice_get (filter one items) number ≡ Some item
    → StandsIn (filter other items) item
filter_more one other [] weaker number item is = record { number = number; is = is }
filter_more one other (first ∷ items) weaker number item is =
    elim (cases_Bool (one first)) [
      | inl passes ↦ at_number number (subst (λ list. slice_get list number ≡ Some item) (ap (λ (b : Bool). cond b (first ∷ filter one items) (filter one items)) passes) is) (weaker first passes) (filter_more one other items weaker)
      | inr fails ↦ later (filter_more one other items weaker number item (subst (λ list. slice_get list number ≡ Some item) (ap (λ (b : Bool). cond b (first ∷ filter one items) (filter one items)) fails) is))
    ] where
      later : StandsIn (filter other items) item → StandsIn (filter other (first ∷ items)) item
      later stands = elim (other first) as (λ b. StandsIn (cond b (first ∷ filter other items) (filter other items)) item) [
        | true ↦ behind_first first (filter other items) item stands
        | false ↦ stands
      ]

      at_number :
          (number : ℕ)
          → slice_get (first ∷ filter one items) number ≡ Some item
          → IsTrue (other first)
          → ((number : ℕ) (item : _) → slice_get (filter one items) number ≡ Some item → StandsIn (filter other items) item)
          → StandsIn (filter other (first ∷ items)) item
      at_number zero is passes rest = subst (λ list. StandsIn list item) (sym (ap (λ (b : Bool). cond b (first ∷ filter other items) (filter other items)) passes)) (record { number = 0; is = is })
      at_number (suc number) is passes rest = later (rest number item is)

-- ---- a place that holds an object that is not made holds it still

pub held_still :
    (away : ℕ → Bool) (state : State) (place site : ℕ)
    → IsFalse (away site)
    → held state place ≡ Virt site
    → held (without state away) place ≡ Virt site
held_still away state place site kept is = held_made away state place ∙ ap (made_plain away) is ∙ kept_slot away site kept

path_behind :
    (away : ℕ → Bool) (objects : List VObject) {from to : ℕ}
    → IsClosed away objects
    → IsPath objects from to
    → IsFalse (away to)
    → (IsFalse (away from)) × IsPath (objects_without away objects) from to
path_behind away objects closed (one_edge from to edge) kept =
    elim (cases_Bool (away from)) [
      | inl gone ↦ absurd (both_ways (away to) kept (closed from to edge gone))
      | inr stays ↦ (stays, one_edge from to (edge_behind away objects from to edge stays kept))
    ]
path_behind away objects closed (edge_and_path from middle to edge path) kept =
    let rest = path_behind away objects closed path kept in
    elim (cases_Bool (away from)) [
      | inl gone ↦ absurd (both_ways (away middle) rest.0 (closed from middle edge gone))
      | inr stays ↦ (stays, edge_and_path from middle to (edge_behind away objects from middle edge stays rest.0) rest.1)
    ]

-- ---- positions

same_depth :
    (away : ℕ → Bool) (object : Option VObject)
    → option_map (λ one. one.depth) (option_map (object_without away) object) ≡ option_map (λ one. one.depth) object
same_depth away None = refl
same_depth away (Some object) = refl

cannot_behind :
    (away : ℕ → Bool) (state : State) (site : ℕ) (slot : Slot)
    → IsClosed away state.objects
    → CannotBePut state site slot
    → CannotBePut (without state away) site (made_plain away slot)
cannot_behind away state site Plain closed cannot = tt
cannot_behind away state site Unusable closed cannot = tt
cannot_behind away state site (Virt into) closed cannot =
    elim (cases_Bool (away into)) [
      | inl gone ↦ subst (CannotBePut (without state away) site) (sym (plain_slot away into gone)) tt
      | inr kept ↦ subst (CannotBePut (without state away) site) (sym (kept_slot away into kept)) (elim cannot [
        | inl same ↦ inl same
        | inr path ↦ inr (path_behind away state.objects closed path kept).1
      ])
    ]

asks_behind :
    (s : PlanScope) (state : State) (away : ℕ → Bool)
    → IsClosed away state.objects
    → (position : Position) (site : ℕ)
    → AsksFor s state position site
    → IsFalse (away site)
    → AsksFor s (without state away) position site
asks_behind s state away closed (any_object place) site asks kept = held_still away state place site kept asks
asks_behind s state away closed (object_put_into value object) site asks kept =
    (held_still away state value site kept asks.0, subst (CannotBePut (without state away) site) (sym (held_made away state object)) (cannot_behind away state site (held state object) closed asks.1))
asks_behind s state away closed (object_not_below place name) site asks kept = (held_still away state place site kept asks.0, asks.1)
asks_behind s state away closed (object_at_depth place depth) site asks kept =
    (held_still away state place site kept asks.0, ap (option_map (λ one. one.depth)) (stays away state.objects site kept) ∙ same_depth away (object_of state.objects site) ∙ asks.1)
asks_behind s state away closed (object_of_site one) site asks kept = (asks.0, present_behind away state.objects site asks.1 kept)

-- ---- stack entries at or below one whose type is Top

virtual_kept :
    (s : PlanScope) (state : State) (away : ℕ → Bool) (by : Change) (site : ℕ)
    → IsClosed away state.objects
    → IsFalse (away site)
    → (source : Source)
    → IsTrue (is_virtual site (slot_from s state by source))
    → IsTrue (is_virtual site (slot_from s (without state away) by source))
virtual_kept s state away by site closed kept plain_value virtual = virtual
virtual_kept s state away by site closed kept from_new virtual = virtual
virtual_kept s state away by site closed kept (from_place place) virtual =
    subst (λ (slot : Slot). IsTrue (is_virtual site slot)) (sym (held_still away state place site kept (virtual_is site (held state place) virtual))) (virtual_itself site)
virtual_kept s state away by site closed kept (from_field place field) virtual =
    let same = ap (λ (slot : Slot). field_of_slot s (without state away) slot field) (held_made away state place) ∙ field_made s state away closed (held state place) field in
    let is = virtual_is site (field_of_slot s state (held state place) field) virtual in
    subst (λ (slot : Slot). IsTrue (is_virtual site slot)) (sym (same ∙ ap (made_plain away) is ∙ kept_slot away site kept)) (virtual_itself site)

beneath_still :
    (s : PlanScope) (state : State) (away : ℕ → Bool) (by : Change) (site : ℕ)
    → IsClosed away state.objects
    → IsFalse (away site)
    → (types : List VType) (sources : List Source)
    → IsTrue (names (beneath_top types (fit_stack types (slots_from s state by sources))) site)
    → IsTrue (names (beneath_top types (fit_stack types (slots_from s (without state away) by sources))) site)
beneath_still s state away by site closed kept [] sources named = named
beneath_still s state away by site closed kept (type ∷ types) [] named = named
beneath_still s state away by site closed kept (type ∷ types) (source ∷ sources) named =
    go (list_any is_top (type ∷ types)) named (beneath_still s state away by site closed kept types sources) where
      go :
          (top : Bool)
          → IsTrue (names (cond top (slot_from s state by source ∷ beneath_top types (fit_stack types (slots_from s state by sources))) []) site)
          → (IsTrue (names (beneath_top types (fit_stack types (slots_from s state by sources))) site) → IsTrue (names (beneath_top types (fit_stack types (slots_from s (without state away) by sources))) site))
          → IsTrue (names (cond top (slot_from s (without state away) by source ∷ beneath_top types (fit_stack types (slots_from s (without state away) by sources))) []) site)
      go false named rest = named
      go true named rest =
          elim (or_cases (is_virtual site (slot_from s state by source)) (names (beneath_top types (fit_stack types (slots_from s state by sources))) site) named) [
            | inl here ↦ or_left (is_virtual site (slot_from s (without state away) by source)) (names (beneath_top types (fit_stack types (slots_from s (without state away) by sources))) site) (virtual_kept s state away by site closed kept source here)
            | inr there ↦ or_right (is_virtual site (slot_from s (without state away) by source)) (names (beneath_top types (fit_stack types (slots_from s (without state away) by sources))) site) (rest there)
          ]

-- ---- what is asked

pub edge_behind_more :
    (s : PlanScope) (at : ℕ) (point : Point) (state : State) (away : ℕ → Bool) (number : ℕ) (edge : RowEdge)
    → slice_get (open_edges s at point state) number ≡ Some edge
    → StandsIn (open_edges s at point (without state away)) edge
edge_behind_more s at point state away number edge is =
    filter_more (λ one. is_open state one.guard) (λ one. is_open (without state away) one.guard) (edges_of at point (row_of_point s at point)) (λ one opened. open_more away state one.guard opened) number edge is

pub asked_behind :
    (s : PlanScope) (at : ℕ) (point : Point) (state : State) (away : ℕ → Bool)
    → IsClosed away state.objects
    → {site : ℕ}
    → IsAsked s at point state site
    → IsFalse (away site)
    → IsAsked s at point (without state away) site
asked_behind s at point state away closed (by_position number position site is asks) kept =
    by_position number position site is (asks_behind s state away closed position site asks kept)
asked_behind s at point state away closed (beneath number edge site is named present) kept =
    let stands = edge_behind_more s at point state away number edge is in
    let row = row_of_point s at point in
    beneath stands.number edge site stands.is
    (beneath_still s state away row.change site closed kept (stack_types s.flat edge.to) (edge_stack row edge.by) named)
    (present_behind away state.objects site present kept)
