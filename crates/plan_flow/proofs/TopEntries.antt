-- Stack entries at or below one whose type is Top, one by one.
use Rattle.std.proofs.Common.{◌≡◌, ◌+◌, ◌<◌, ◌≤◌, ◌||◌, ℕ, zero, suc, Bool, true, false, cond, List, [], ◌∷◌, map, drop, length, slice_get, Option, Some, None, option_map, IsTrue, refl, sym, ap, subst, ◌∙◌, inl, inr, ◌⊎◌, arith}
use Rattle.std.specs.List.{list_any}
use Rattle.std.proofs.lemmas.Bool.{false≢true, or_cases, or_from, or_left, or_parts, or_right}
use Rattle.class_model.specs.Frames.{is_top}
use Rattle.class_model.specs.declared.frame.Frame.{Frame}
use Rattle.class_model.specs.declared.frame.VType.{VType}
use Rattle.flow_code.specs.FlatCode.{FlatCode, point_at}
use Rattle.flow_code.specs.declared.point.Point.{Point}
use Rattle.class_tree.specs.Headers.{Classes}
use Rattle.member_link.specs.Machine.Programs.{Links}
use Rattle.plan_flow.specs.Inner.Asking.{HasAdded, IsBeneath, IsBeneathAny, IsTested}
use Rattle.plan_flow.specs.Inner.EdgeViews.{row_edge}
use Rattle.plan_flow.specs.Inner.RowViews.{plan_row}
use Rattle.plan_flow.specs.Inner.Fitting.{or_plain}
use Rattle.plan_flow.specs.PlanScope.{scope_of, stack_types}
use Rattle.plan_flow.specs.PlanSlots.{beneath_top, fit_stack, stack_slots}
use Rattle.plan_flow.specs.declared.edges.GuardedEdge.{GuardedEdge}
use Rattle.plan_flow.specs.declared.rows.Row.{Row}
use Rattle.plan_flow.proofs.Adding.{AddsAll, adds_start, adds_more, adds_end}
use Rattle.plan_flow.proofs.Changing.{virtual_is}
use Rattle.plan_flow.proofs.Moving.{virtual_itself}
use Rattle.plan_flow.proofs.Opening.{dropped, dropped_all}
use Rattle.virtual_state.specs.States.{State, is_present, is_virtual, names}
use Rattle.virtual_state.specs.declared.slot.Slot.{Slot}
use Rattle.virtual_state.specs.declared.slot.Slot.TheVariants.{Plain, Virt}

-- ---- lists that are dropped from

drop_next : {A : Type 0} (at : ℕ) (list : List A) → drop 1 (drop at list) ≡ drop (suc at) list
drop_next zero list = refl
drop_next (suc at) [] = refl
drop_next (suc at) (first ∷ list) = drop_next at list

first_left : {A : Type 0} (at : ℕ) (list : List A) → slice_get (drop at list) 0 ≡ slice_get list at
first_left zero list = refl
first_left (suc at) [] = refl
first_left (suc at) (first ∷ list) = first_left at list

pub any_inside : {A : Type 0} (test : A → Bool) (at : ℕ) (list : List A) → list_any test (drop at list) ≡ true → at < length list
any_inside test zero [] some = absurd (false≢true some)
any_inside test zero (first ∷ list) some = omega arith
any_inside test (suc at) [] some = absurd (false≢true some)
any_inside test (suc at) (first ∷ list) some = let rest = any_inside test at list some in omega (arith, rest)

-- ---- the last one that passes a test

pub none_later : (types : List VType) (end at : ℕ) → end ≤ at → list_any is_top (drop end types) ≡ false → list_any is_top (drop at types) ≡ false
none_later types zero zero low none = none
none_later [] zero (suc at) low none = refl
none_later (type ∷ types) zero (suc at) low none = none_later types zero at (omega arith) ((or_parts (is_top type) (list_any is_top types) none).1)
none_later types (suc end) zero low none = absurd (omega arith)
none_later [] (suc end) (suc at) low none = refl
none_later (type ∷ types) (suc end) (suc at) low none = none_later types end at (omega arith) none

pub some_earlier : (types : List VType) (at last : ℕ) (type : VType) → at ≤ last → slice_get types last ≡ Some type → is_top type ≡ true → list_any is_top (drop at types) ≡ true
some_earlier [] at last type low is top = absurd cc
some_earlier (first ∷ types) zero zero type low is top = let same : first ≡ type = cc in or_left (is_top first) (list_any is_top types) (ap is_top same ∙ top)
some_earlier (first ∷ types) zero (suc last) type low is top = or_right (is_top first) (list_any is_top types) (some_earlier types zero last type (omega arith) is top)
some_earlier (first ∷ types) (suc at) zero type low is top = absurd (omega arith)
some_earlier (first ∷ types) (suc at) (suc last) type low is top = some_earlier types at last type (omega arith) is top

pub none_from : (types : List VType) (at : ℕ) (type : VType) → slice_get types at ≡ Some type → is_top type ≡ false → list_any is_top (drop (suc at) types) ≡ false → list_any is_top (drop at types) ≡ false
none_from [] at type is top none = absurd cc
none_from (first ∷ types) zero type is top none = let same : first ≡ type = cc in or_from (is_top first) (list_any is_top types) (ap is_top same ∙ top) none
none_from (first ∷ types) (suc at) type is top none = none_from types at type is top none

-- ---- where no type is Top

pub none_beneath :
    (state : State) (types : List VType) (slots : List Slot)
    → list_any is_top types ≡ false
    → (site : ℕ)
    → IsBeneath state types slots site
    → ⊥
none_beneath state [] slots none site beneath = false≢true beneath.0
none_beneath state (type ∷ types) [] none site beneath = false≢true beneath.0
none_beneath state (type ∷ types) (slot ∷ slots) none site beneath =
    false≢true (sym (ap (λ (some : Bool). names (cond some (slot ∷ beneath_top types slots) []) site) none) ∙ beneath.0)

-- ---- the first entry, and those behind it

abbrev Here : State → Slot → ℕ → Type 0
Here state slot site = (slot ≡ Virt site) × IsTrue (is_present state.objects site)

module _ (state : State) (type : VType) (types : List VType) (slot : Slot) (slots : List Slot) (some : list_any is_top (type ∷ types) ≡ true) (site : ℕ) where
  named : names (beneath_top (type ∷ types) (slot ∷ slots)) site ≡ (is_virtual site slot || names (beneath_top types slots) site)
  named = ap (λ (any : Bool). names (cond any (slot ∷ beneath_top types slots) []) site) some

  beneath_here : Here state slot site → IsBeneath state (type ∷ types) (slot ∷ slots) site
  beneath_here here = (
    named ∙ or_left (is_virtual site slot) (names (beneath_top types slots) site) (ap (is_virtual site) here.0 ∙ virtual_itself site),
    here.1,
  )

  beneath_later : IsBeneath state types slots site → IsBeneath state (type ∷ types) (slot ∷ slots) site
  beneath_later later = (named ∙ or_right (is_virtual site slot) (names (beneath_top types slots) site) later.0, later.1)

  beneath_parts : IsBeneath state (type ∷ types) (slot ∷ slots) site → Here state slot site ⊎ IsBeneath state types slots site
  beneath_parts beneath = elim (or_cases (is_virtual site slot) (names (beneath_top types slots) site) (sym named ∙ beneath.0)) [
    | inl here ↦ inl (virtual_is site slot here, beneath.1)
    | inr later ↦ inr (later, beneath.1)
  ]

pub record Parts (state : State) (types : List VType) (entries : List Slot) (site : ℕ) : Type 0 where
  pub here : Here state (or_plain (slice_get entries 0)) site → IsBeneath state types (fit_stack types entries) site
  pub later : IsBeneath state (drop 1 types) (fit_stack (drop 1 types) (drop 1 entries)) site → IsBeneath state types (fit_stack types entries) site
  pub parts :
      IsBeneath state types (fit_stack types entries) site
      → Here state (or_plain (slice_get entries 0)) site
      ⊎ IsBeneath state (drop 1 types) (fit_stack (drop 1 types) (drop 1 entries)) site

parts_of : (state : State) (types : List VType) (entries : List Slot) → list_any is_top types ≡ true → (site : ℕ) → Parts state types entries site
parts_of state [] entries some site = absurd (false≢true some)
parts_of state (type ∷ types) [] some site = record {
  here = beneath_here state type types Plain (fit_stack types []) some site;
  later = beneath_later state type types Plain (fit_stack types []) some site;
  parts = beneath_parts state type types Plain (fit_stack types []) some site;
}
parts_of state (type ∷ types) (slot ∷ slots) some site = record {
  here = beneath_here state type types slot (fit_stack types slots) some site;
  later = beneath_later state type types slot (fit_stack types slots) some site;
  parts = beneath_parts state type types slot (fit_stack types slots) some site;
}

-- ---- the loop over entries

abbrev Left : State → List VType → List Slot → ℕ → ℕ → Type 0
Left state types entries at site = IsBeneath state (drop at types) (fit_stack (drop at types) (drop at entries)) site

pub record Entries (start now : List ℕ) (state : State) (types : List VType) (entries : List Slot) (at : ℕ) : Type 0 where
  pub inside : at ≤ length types
  pub adds : AddsAll start now (IsBeneath state types (fit_stack types entries)) (λ site. IsBeneath state (drop at types) (fit_stack (drop at types) (drop at entries)) site)

pub entries_start : (start : List ℕ) (state : State) (types : List VType) (entries : List Slot) → Entries start start state types entries 0
entries_start start state types entries = record { inside = omega arith; adds = adds_start start (IsBeneath state types (fit_stack types entries)) }

pub entries_next :
    {start now next : List ℕ} (state : State) (types : List VType) (entries : List Slot) (at behind : ℕ) (slot : Slot) (present : Bool)
    → Entries start now state types entries at
    → list_any is_top (drop at types) ≡ true
    → slot ≡ or_plain (slice_get entries at)
    → ((site : ℕ) → slot ≡ Virt site → present ≡ is_present state.objects site)
    → HasAdded now next (IsTested slot present)
    → behind ≡ suc at
    → Entries start next state types entries behind
entries_next {start} {now} {next} state types entries at behind slot present has some is test added one =
    subst (λ (number : ℕ). Entries start next state types entries number) (sym one) (record {
      inside = (let low = any_inside is_top at types some in omega (arith, low));
      adds = adds_more (Left state types entries at) (IsTested slot present) (Left state types entries (suc at)) has.adds added
          (λ site beneath. elim ((all site).parts beneath) [
            | inl here ↦ inl (slot_is ∙ here.0, test site (slot_is ∙ here.0) ∙ here.1)
            | inr later ↦ inr (subst (λ (rest : Type 0). rest) (left_is site) later)
          ])
          (λ site tested. (all site).here (sym slot_is ∙ tested.0, sym (test site tested.0) ∙ tested.1))
          (λ site later. (all site).later (subst (λ (rest : Type 0). rest) (sym (left_is site)) later));
    }) where
      all : (site : ℕ) → Parts state (drop at types) (drop at entries) site
      all site = parts_of state (drop at types) (drop at entries) some site

      slot_is : slot ≡ or_plain (slice_get (drop at entries) 0)
      slot_is = is ∙ ap or_plain (sym (first_left at entries))

      left_is : (site : ℕ) → IsBeneath state (drop 1 (drop at types)) (fit_stack (drop 1 (drop at types)) (drop 1 (drop at entries))) site ≡ Left state types entries (suc at) site
      left_is site = λ i. IsBeneath state (drop_next at types i) (fit_stack (drop_next at types i) (drop_next at entries i)) site

pub entries_end :
    {start now : List ℕ} (state : State) (types : List VType) (entries : List Slot) (at : ℕ)
    → Entries start now state types entries at
    → list_any is_top (drop at types) ≡ false
    → HasAdded start now (IsBeneath state types (fit_stack types entries))
entries_end state types entries at has none =
    adds_end (Left state types entries at) has.adds (λ site beneath. none_beneath state (drop at types) (fit_stack (drop at types) (drop at entries)) none site beneath)

-- ---- the types of a target

abbrev pub stack_of : Option Frame → List VType
stack_of None = []
stack_of (Some types) = types.stack

pub target_types : (flat : FlatCode) (at : ℕ) (types : Option Frame) → types ≡ option_map (λ (point : Point). point.typed) (point_at flat at) → stack_types flat at ≡ stack_of types
target_types flat at types is = by (point_at flat at) refl ∙ ap stack_of (sym is)
  where
    by : (point : Option Point) → point_at flat at ≡ point → stack_types flat at ≡ stack_of (option_map (λ (point : Point). point.typed) (point_at flat at))
    by None found = rw found refl
    by (Some point) found = rw found refl

-- ---- the loop over edges

pub record EdgesLeft (start now : List ℕ) (classes : Classes) (flat : FlatCode) (types : Frame) (row : Row) (edges : List GuardedEdge) (state : State) (at : ℕ) : Type 0 where
  pub each : (links : Links) → AddsAll start now
      (IsBeneathAny (scope_of classes links flat) state (plan_row types row) (map row_edge edges))
      (IsBeneathAny (scope_of classes links flat) state (plan_row types row) (map row_edge (drop at edges)))

pub edges_start : (start : List ℕ) (classes : Classes) (flat : FlatCode) (types : Frame) (row : Row) (edges : List GuardedEdge) (state : State) → EdgesLeft start start classes flat types row edges state 0
edges_start start classes flat types row edges state = record {
  each = λ links. adds_start start (IsBeneathAny (scope_of classes links flat) state (plan_row types row) (map row_edge edges));
}

pub edges_next :
    {start now next : List ℕ} {classes : Classes} {flat : FlatCode} {types : Frame} {row : Row} (edges : List GuardedEdge) {state : State} (at behind : ℕ) (edge : GuardedEdge)
    → EdgesLeft start now classes flat types row edges state at
    → slice_get edges at ≡ Some edge
    → ((links : Links) → HasAdded now next (IsBeneath state (stack_types flat edge.to) (stack_slots (scope_of classes links flat) state (plan_row types row) (row_edge edge))))
    → behind ≡ at + 1
    → EdgesLeft start next classes flat types row edges state behind
edges_next {start} {now} {next} {classes} {flat} {types} {row} edges {state} at behind edge left is added one =
    subst (λ (number : ℕ). EdgesLeft start next classes flat types row edges state number) (sym one) (record {
      each = λ links.
          let s = scope_of classes links flat in
          let Rest : List GuardedEdge → ℕ → Type 0 = λ list site. IsBeneathAny s state (plan_row types row) (map row_edge list) site in
          adds_more (Rest (edge ∷ drop (at + 1) edges)) (IsBeneath state (stack_types flat edge.to) (stack_slots s state (plan_row types row) (row_edge edge))) (Rest (drop (at + 1) edges))
          (subst (λ (list : List GuardedEdge). AddsAll start now (Rest edges) (Rest list)) (dropped edges at edge is) (left.each links))
          (added links)
          (λ site either. either)
          (λ site here. inl here)
          (λ site later. inr later);
    })

pub edges_end :
    {start now : List ℕ} {classes : Classes} {flat : FlatCode} {types : Frame} {row : Row} (edges : List GuardedEdge) {state : State} (at : ℕ)
    → EdgesLeft start now classes flat types row edges state at
    → slice_get edges at ≡ None
    → (links : Links)
    → HasAdded start now (IsBeneathAny (scope_of classes links flat) state (plan_row types row) (map row_edge edges))
edges_end {start} {now} {classes} {flat} {types} {row} edges {state} at left past links =
    let s = scope_of classes links flat in
    let Rest : List GuardedEdge → ℕ → Type 0 = λ list site. IsBeneathAny s state (plan_row types row) (map row_edge list) site in
    adds_end (Rest []) (subst (λ (list : List GuardedEdge). AddsAll start now (Rest edges) (Rest list)) (dropped_all edges at past) (left.each links)) (λ site none. none)
