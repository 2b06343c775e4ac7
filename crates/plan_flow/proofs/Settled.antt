-- Whether an instruction asks for an object can be told, so that above each state there is a least one in which it asks for none.
use Rattle.std.proofs.Common.{◌≡◌, ℕ, zero, suc, Bool, true, false, cond, List, [], ◌∷◌, length, drop, slice_get, Some, None, IsTrue, IsFalse, refl, sym, ap, subst, ◌∙◌, inl, inr, ◌⊎◌}
use Rattle.std.specs.List.{list_any}
use Rattle.std.proofs.lemmas.Bool.{cases_Bool, or_cases, or_left, or_right, false≢true, both_ways, not_from_true}
use Rattle.std.proofs.lemmas.List.{drop-map}
use Rattle.std.proofs.lemmas.Option.{none-some, same_Some}
use Rattle.class_model.specs.Frames.{is_top}
use Rattle.class_model.specs.declared.frame.VType.{VType}
use Rattle.flow_code.specs.declared.point.Point.{Point}
use Rattle.plan_flow.specs.Must.{row_of_point, open_edges, CannotBePut, AsksFor, IsAsked, by_position, beneath, IsMustOf}
use Rattle.plan_flow.specs.PlanRows.{Position, any_object, object_put_into, object_not_below, object_at_depth, object_of_site, RowEdge}
use Rattle.plan_flow.specs.PlanScope.{PlanScope, is_site_below, local_types, stack_types}
use Rattle.plan_flow.specs.PlanSlots.{held, stack_slots, beneath_top}
use Rattle.plan_flow.specs.PlanTable.{positions}
use Rattle.plan_flow.specs.Plans.{HasPlainBeneathTop}
use Rattle.virtual_state.specs.Depths.{depth_of}
use Rattle.virtual_state.specs.States.{State, IsState, IsEdge, IsPath, one_edge, edge_and_path, IsReached, from_slot, from_field, object_of, is_present, is_virtual, names}
use Rattle.virtual_state.specs.Without.{made_plain}
use Rattle.virtual_state.specs.declared.slot.Slot.{Slot}
use Rattle.virtual_state.specs.declared.slot.Slot.TheVariants.{Plain, Virt, Unusable}
use Rattle.virtual_state.specs.declared.slot.VObject.{VObject}
use Rattle.virtual_state.specs.Laws.Fields.{made, named_behind}
use Rattle.virtual_state.specs.Laws.Objects.{same_or_not, some_or_none}
use Rattle.virtual_state.specs.Laws.Orders.{absent, below_is_without, below_is_closed}
use Rattle.plan_flow.proofs.FitsBelow.{fields_lost}
use Rattle.plan_flow.proofs.LeastAbove.{MustGo, LeastAbove, least_above}
use Rattle.plan_flow.proofs.Moving.{plain≢virt, same_site, names_at}
use Rattle.plan_flow.proofs.MustGrows.{asked_behind}
use Rattle.plan_flow.proofs.Reached.{reach, reach_all}

-- ---- paths can be told

path_then :
    {objects : List VObject} {from middle : ℕ} (to : ℕ)
    → IsPath objects from middle
    → IsEdge objects middle to
    → IsPath objects from to
path_then to (one_edge from middle edge) last = edge_and_path from middle to edge (one_edge middle to last)
path_then to (edge_and_path from next middle edge path) last = edge_and_path from next to edge (path_then to path last)

reached_then :
    {slots : List Slot} {objects : List VObject} {from to : ℕ}
    → IsReached slots objects from
    → IsPath objects from to
    → IsReached slots objects to
reached_then reached (one_edge from to edge) = from_field from to reached edge
reached_then reached (edge_and_path from middle to edge path) = reached_then (from_field from middle reached edge) path

-- what the fields of an object reach, the object reaches
path_of_reached :
    (objects : List VObject) (from : ℕ) (object : VObject)
    → object_of objects from ≡ Some object
    → {to : ℕ}
    → IsReached object.fields objects to
    → IsPath objects from to
path_of_reached objects from object there (from_slot to named) = one_edge from to (record { object = object; there = there; named = named })
path_of_reached objects from object there (from_field middle to reached edge) = path_then to (path_of_reached objects from object there reached) edge

reached_of_path :
    (objects : List VObject) (from : ℕ) (object : VObject)
    → object_of objects from ≡ Some object
    → {to : ℕ}
    → IsPath objects from to
    → IsReached object.fields objects to
reached_of_path objects from object there path = go path there where
  go : {start to : ℕ} → IsPath objects start to → object_of objects start ≡ Some object → IsReached object.fields objects to
  go (one_edge start to edge) is = from_slot to (subst (λ (one : VObject). IsTrue (names one.fields to)) (same_Some edge.object object (sym edge.there ∙ is)) edge.named)
  go (edge_and_path start middle to edge rest) is = reached_then (from_slot middle (subst (λ (one : VObject). IsTrue (names one.fields middle)) (same_Some edge.object object (sym edge.there ∙ is)) edge.named)) rest

pub path_from_none : (objects : List VObject) {from to : ℕ} → IsPath objects from to → object_of objects from ≡ None → ⊥
path_from_none objects (one_edge from to edge) none = none-some edge.object (sym none ∙ edge.there)
path_from_none objects (edge_and_path from middle to edge path) none = none-some edge.object (sym none ∙ edge.there)

path_or_none : (objects : List VObject) (from to : ℕ) → IsPath objects from to ⊎ (IsPath objects from to → ⊥)
path_or_none objects from to =
    elim (some_or_none (object_of objects from)) [
      | inl found ↦
          let reached = reach found.0.fields objects in
          elim (cases_Bool (reached.set to)) [
            | inl there ↦ inl (path_of_reached objects from found.0 found.1 (reached.only to there))
            | inr none ↦ inr (λ path. both_ways (reached.set to) none (reach_all found.0.fields objects reached (reached_of_path objects from found.0 found.1 path)))
          ]
      | inr none ↦ inr (λ path. path_from_none objects path none)
    ]

-- ---- positions

-- something asks, or nothing does
abbrev Told : (ℕ → Type 0) → Type 0
Told Asks = ((site : ℕ) × Asks site) ⊎ ((site : ℕ) → Asks site → ⊥)

no_virtual : (slot : Slot) → ((site : ℕ) × (slot ≡ Virt site)) ⊎ ((site : ℕ) → slot ≡ Virt site → ⊥)
no_virtual Plain = inr (λ site is. plain≢virt is)
no_virtual Unusable = inr (λ site is. cc)
no_virtual (Virt site) = inl (site, refl)

cannot_or_can : (state : State) (site : ℕ) (slot : Slot) → CannotBePut state site slot ⊎ (CannotBePut state site slot → ⊥)
cannot_or_can state site Plain = inl tt
cannot_or_can state site Unusable = inl tt
cannot_or_can state site (Virt into) =
    elim (same_or_not site into) [
      | inl same ↦ inl (inl same)
      | inr differ ↦ elim (path_or_none state.objects site into) [
        | inl path ↦ inl (inr path)
        | inr none ↦ inr (λ cannot. elim cannot [ inl same ↦ differ same | inr path ↦ none path ])
      ]
    ]

depth_or_not : (state : State) (site depth : ℕ) → (depth_of state site ≡ Some depth) ⊎ (depth_of state site ≡ Some depth → ⊥)
depth_or_not state site depth =
    elim (some_or_none (depth_of state site)) [
      | inl found ↦ elim (same_or_not found.0 depth) [
        | inl same ↦ inl (found.1 ∙ ap Some same)
        | inr differ ↦ inr (λ is. differ (same_Some found.0 depth (sym found.1 ∙ is)))
      ]
      | inr none ↦ inr (λ is. none-some depth (sym none ∙ is))
    ]

-- a place holds an object for which a further condition can be told
told_there :
    (state : State) (place : ℕ) (Further : ℕ → Type 0)
    → ((site : ℕ) → Further site ⊎ (Further site → ⊥))
    → Told (λ site. (held state place ≡ Virt site) × Further site)
told_there state place Further decide =
    elim (no_virtual (held state place)) [
      | inr none ↦ inr (λ site asks. none site asks.0)
      | inl found ↦ elim (decide found.0) [
        | inl further ↦ inl (found.0, (found.1, further))
        | inr not_further ↦ inr (λ site asks. not_further (subst Further (same_site (sym asks.0 ∙ found.1)) asks.1))
      ]
    ]

position_told : (s : PlanScope) (state : State) (position : Position) → Told (AsksFor s state position)
position_told s state (any_object place) = no_virtual (held state place)
position_told s state (object_put_into value object) = told_there state value (λ site. CannotBePut state site (held state object)) (λ site. cannot_or_can state site (held state object))
position_told s state (object_not_below place name) = told_there state place (λ site. IsFalse (is_site_below s site name)) (λ site. elim (cases_Bool (is_site_below s site name)) [
  | inl below ↦ inr (λ fails. both_ways (is_site_below s site name) fails below)
  | inr fails ↦ inl fails
])
position_told s state (object_at_depth place depth) = told_there state place (λ site. depth_of state site ≡ Some depth) (λ site. depth_or_not state site depth)
position_told s state (object_of_site one) =
    elim (cases_Bool (is_present state.objects one)) [
      | inl present ↦ inl (one, (refl, present))
      | inr none ↦ inr (λ site asks. both_ways (is_present state.objects one) none (subst (λ (at : ℕ). IsTrue (is_present state.objects at)) (sym asks.0) asks.1))
    ]

-- what a position asks for is present
place_present : (state : State) (place site : ℕ) → IsState state → held state place ≡ Virt site → IsTrue (is_present state.objects site)
place_present state place site is there = is.places site (names_at state.slots place site there)

pub asked_present : (s : PlanScope) (state : State) (position : Position) (site : ℕ) → IsState state → AsksFor s state position site → IsTrue (is_present state.objects site)
asked_present s state (any_object place) site is asks = place_present state place site is asks
asked_present s state (object_put_into value object) site is asks = place_present state value site is asks.0
asked_present s state (object_not_below place name) site is asks = place_present state place site is asks.0
asked_present s state (object_at_depth place depth) site is asks = place_present state place site is asks.0
asked_present s state (object_of_site one) site is asks = asks.1

positions_told :
    (s : PlanScope) (state : State) (list : List Position)
    → ((number : ℕ) × (position : Position) × (site : ℕ) × (slice_get list number ≡ Some position) × AsksFor s state position site)
    ⊎ ((number : ℕ) (position : Position) (site : ℕ) → slice_get list number ≡ Some position → AsksFor s state position site → ⊥)
positions_told s state [] = inr (λ number position site is asks. none-some position is)
positions_told s state (first ∷ list) =
    elim (position_told s state first) [
      | inl found ↦ inl (0, first, found.0, refl, found.1)
      | inr none ↦ elim (positions_told s state list) [
        | inl found ↦ inl (suc found.0, found.1, found.2, found.3, found.4)
        | inr rest ↦ inr (by_number none rest)
      ]
    ] where
      by_number :
          ((site : ℕ) → AsksFor s state first site → ⊥)
          → ((number : ℕ) (position : Position) (site : ℕ) → slice_get list number ≡ Some position → AsksFor s state position site → ⊥)
          → (number : ℕ) (position : Position) (site : ℕ) → slice_get (first ∷ list) number ≡ Some position → AsksFor s state position site → ⊥
      by_number none rest zero position site is asks = none site (subst (λ (one : Position). AsksFor s state one site) (sym (same_Some first position is)) asks)
      by_number none rest (suc number) position site is asks = rest number position site is asks

-- ---- edges

abbrev IsBeneath : PlanScope → ℕ → Point → State → RowEdge → ℕ → Type 0
IsBeneath s at point state edge site =
    IsTrue (names (beneath_top (stack_types s.flat edge.to) (stack_slots s state (row_of_point s at point) edge)) site)
    × IsTrue (is_present state.objects site)

edges_told :
    (s : PlanScope) (at : ℕ) (point : Point) (state : State) (list : List RowEdge)
    → ((number : ℕ) × (edge : RowEdge) × (site : ℕ) × (slice_get list number ≡ Some edge) × IsBeneath s at point state edge site)
    ⊎ ((number : ℕ) (edge : RowEdge) (site : ℕ) → slice_get list number ≡ Some edge → IsBeneath s at point state edge site → ⊥)
edges_told s at point state [] = inr (λ number edge site is there. none-some edge is)
edges_told s at point state (first ∷ list) =
    elim (fields_lost state (beneath_top (stack_types s.flat first.to) (stack_slots s state (row_of_point s at point) first))) [
      | inr found ↦ inl (0, first, found.0, refl, (found.1, found.2))
      | inl none ↦ elim (edges_told s at point state list) [
        | inl found ↦ inl (suc found.0, found.1, found.2, found.3, found.4)
        | inr rest ↦ inr (by_number (λ site there. both_ways (is_present state.objects site) (none site there.0) there.1) rest)
      ]
    ] where
      by_number :
          ((site : ℕ) → IsBeneath s at point state first site → ⊥)
          → ((number : ℕ) (edge : RowEdge) (site : ℕ) → slice_get list number ≡ Some edge → IsBeneath s at point state edge site → ⊥)
          → (number : ℕ) (edge : RowEdge) (site : ℕ) → slice_get (first ∷ list) number ≡ Some edge → IsBeneath s at point state edge site → ⊥
      by_number none rest zero edge site is there = none site (subst (λ (one : RowEdge). IsBeneath s at point state one site) (sym (same_Some first edge is)) there)
      by_number none rest (suc number) edge site is there = rest number edge site is there

-- ---- a state in which nothing is asked

none_asked : (s : PlanScope) (at : ℕ) (point : Point) (state : State) → ((site : ℕ) → IsAsked s at point state site → ⊥) → IsMustOf s at point state []
none_asked s at point state none = record {
  order = tt;
  asked = λ site asked. absurd (none site asked);
  closed = λ from to edge among. absurd (false≢true among);
  least = λ other all closed site among. absurd (false≢true among);
}

-- what is asked must go
asked_goes :
    (s : PlanScope) (at : ℕ) (point : Point) (state : State) (site : ℕ)
    → IsState state
    → IsAsked s at point state site
    → IsTrue (is_present state.objects site)
    → MustGo (λ above. IsMustOf s at point above []) state
asked_goes s at point state site is asked present = record {
  site = site;
  present = present;
  gone = λ above up must. elim (cases_Bool (is_present above.objects site)) [
    | inr none ↦ none
    | inl there ↦
        let still = asked_behind s at point state (absent above) (below_is_closed state above is up) asked (not_from_true (is_present above.objects site) there) in
        absurd (false≢true (must.asked site (subst (λ (one : State). IsAsked s at point one site) (sym (below_is_without state above is up)) still)))
  ];
}

settled_or_not :
    (s : PlanScope) (at : ℕ) (point : Point) (state : State)
    → IsState state
    → IsMustOf s at point state [] ⊎ MustGo (λ above. IsMustOf s at point above []) state
settled_or_not s at point state is =
    elim (positions_told s state (positions (row_of_point s at point))) [
      | inl found ↦ inr (asked_goes s at point state found.2 is (by_position found.0 found.1 found.2 found.3 found.4) (asked_present s state found.1 found.2 is found.4))
      | inr no_position ↦ elim (edges_told s at point state (open_edges s at point state)) [
        | inl found ↦ inr (asked_goes s at point state found.2 is (beneath found.0 found.1 found.2 found.3 found.4.0 found.4.1) found.4.1)
        | inr no_edge ↦ inl (none_asked s at point state (λ site asked. neither no_position no_edge asked))
      ]
    ] where
      neither :
          ((number : ℕ) (position : Position) (site : ℕ) → slice_get (positions (row_of_point s at point)) number ≡ Some position → AsksFor s state position site → ⊥)
          → ((number : ℕ) (edge : RowEdge) (site : ℕ) → slice_get (open_edges s at point state) number ≡ Some edge → IsBeneath s at point state edge site → ⊥)
          → {site : ℕ} → IsAsked s at point state site → ⊥
      neither no_position no_edge (by_position number position site is asks) = no_position number position site is asks
      neither no_position no_edge (beneath number edge site is named present) = no_edge number edge site is (named, present)

-- The least state above one in which an instruction asks for no object.
pub settled : (s : PlanScope) (at : ℕ) (point : Point) (state : State) → IsState state → LeastAbove (λ above. IsMustOf s at point above []) state
settled s at point state is = least_above (λ above. IsMustOf s at point above []) state is (λ one is_one up. settled_or_not s at point one is_one)

-- ---- a state with no object at or below an entry that is Top

pub beneath_made :
    (away : ℕ → Bool) (types : List VType) (slots : List Slot)
    → beneath_top types (made away slots) ≡ made away (beneath_top types slots)
beneath_made away [] slots = refl
beneath_made away (type ∷ types) [] = refl
beneath_made away (type ∷ types) (slot ∷ slots) =
    go (list_any is_top (type ∷ types)) (beneath_made away types slots) where
      go :
          (top : Bool)
          → beneath_top types (made away slots) ≡ made away (beneath_top types slots)
          → cond top (made_plain away slot ∷ beneath_top types (made away slots)) [] ≡ made away (cond top (slot ∷ beneath_top types slots) [])
      go true rest = λ i. made_plain away slot ∷ rest i
      go false rest = refl

pub beneath_named : (types : List VType) (slots : List Slot) (site : ℕ) → IsTrue (names (beneath_top types slots) site) → IsTrue (names slots site)
beneath_named [] slots site named = absurd (false≢true named)
beneath_named (type ∷ types) [] site named = named
beneath_named (type ∷ types) (slot ∷ slots) site named = go (list_any is_top (type ∷ types)) named (beneath_named types slots site) where
  go :
      (top : Bool)
      → IsTrue (names (cond top (slot ∷ beneath_top types slots) []) site)
      → (IsTrue (names (beneath_top types slots) site) → IsTrue (names slots site))
      → IsTrue (names (slot ∷ slots) site)
  go false named rest = absurd (false≢true named)
  go true named rest = elim (or_cases (is_virtual site slot) (names (beneath_top types slots) site) named) [
    | inl here ↦ or_left (is_virtual site slot) (names slots site) here
    | inr there ↦ or_right (is_virtual site slot) (names slots site) (rest there)
  ]

pub dropped_named : (number : ℕ) (slots : List Slot) (site : ℕ) → IsTrue (names (drop number slots) site) → IsTrue (names slots site)
dropped_named zero slots site named = named
dropped_named (suc number) [] site named = named
dropped_named (suc number) (slot ∷ slots) site named = or_right (is_virtual site slot) (names slots site) (dropped_named number slots site named)

abbrev beneath_in : PlanScope → ℕ → List Slot → List Slot
beneath_in s at slots = beneath_top (stack_types s.flat at) (drop (length (local_types s.flat at)) slots)

pub clean_or_not : (s : PlanScope) (at : ℕ) (state : State) → IsState state → HasPlainBeneathTop s at state ⊎ MustGo (HasPlainBeneathTop s at) state
clean_or_not s at state is =
    elim (fields_lost state (beneath_in s at state.slots)) [
      | inl none ↦ inl (record {
        each = λ site. elim (cases_Bool (names (beneath_in s at state.slots) site)) [
          | inr not_named ↦ not_named
          | inl named ↦ absurd (both_ways (is_present state.objects site) (none site named) (is.places site (dropped_named (length (local_types s.flat at)) state.slots site (beneath_named (stack_types s.flat at) (drop (length (local_types s.flat at)) state.slots) site named))))
        ];
      })
      | inr found ↦ inr (record {
        site = found.0;
        present = found.2;
        gone = λ above up clean. elim (cases_Bool (is_present above.objects found.0)) [
          | inr none ↦ none
          | inl there ↦
              let away = absent above in
              let slots : above.slots ≡ made away state.slots = ap (λ (one : State). one.slots) (below_is_without state above is up) in
              let dropped : beneath_in s at above.slots ≡ made away (beneath_in s at state.slots) =
              ap (beneath_in s at) slots
              ∙ ap (beneath_top (stack_types s.flat at)) (drop-map (made_plain away) (length (local_types s.flat at)) state.slots)
              ∙ beneath_made away (stack_types s.flat at) (drop (length (local_types s.flat at)) state.slots) in
              let named = named_behind away (beneath_in s at state.slots) found.0 found.1 (not_from_true (is_present above.objects found.0) there) in
              absurd (both_ways (names (beneath_in s at above.slots) found.0) (clean.each found.0) (subst (λ (list : List Slot). IsTrue (names list found.0)) (sym dropped) named))
        ];
      })
    ]
