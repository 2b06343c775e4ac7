-- Which objects slots reach can be decided: fields are followed until no object is left that adds one.
use Rattle.std.proofs.Common.{◌≡◌, ℕ, ◌<◌, ◌≤◌, ◌+◌, ◌==◌, zero, suc, Bool, true, false, not, ◌||◌, List, [], ◌∷◌, Option, Some, None, IsTrue, IsFalse, refl, sym, ap, subst, ◌∙◌, inl, inr, ◌⊎◌, arith}
use Rattle.std.specs.List.{list_any}
use Rattle.std.proofs.lemmas.Bool.{cases_Bool, or_cases, or_left, or_right, eq-eqb, eqb-true, false≢true, true≢false, both_ways, not_from_true, not_from_false, not-true}
use Rattle.virtual_state.specs.Inner.Marks.{named_by}
use Rattle.virtual_state.specs.Sites.{has}
use Rattle.virtual_state.specs.States.{IsEdge, IsReached, from_slot, from_field, object_of, is_present, names, sites_of}
use Rattle.virtual_state.specs.Without.{IsClosed}
use Rattle.virtual_state.specs.declared.slot.Slot.{Slot}
use Rattle.virtual_state.specs.declared.slot.Slot.TheVariants.{Plain, Virt, Unusable}
use Rattle.virtual_state.specs.declared.slot.VObject.{VObject}
use Rattle.virtual_state.specs.Laws.Objects.{same_or_not, object_behind, present_found}

-- ---- how many pass a test

abbrev one_if : Bool → ℕ
one_if true = 1
one_if false = 0

pub count : (ℕ → Bool) → List ℕ → ℕ
count test [] = 0
count test (site ∷ sites) = one_if (test site) + count test sites

count_first : (test : ℕ → Bool) (site : ℕ) (b : Bool) → test site ≡ b → one_if (test site) ≡ one_if b
count_first test site b is = ap one_if is

pub count_less :
    (one other : ℕ → Bool)
    → ((site : ℕ) → IsTrue (one site) → IsTrue (other site))
    → (sites : List ℕ)
    → count one sites ≤ count other sites
unfolding count
count_less one other part [] = omega arith
count_less one other part (site ∷ sites) =
    let rest = count_less one other part sites in
    elim (cases_Bool (one site)) [
      | inl passes ↦ omega (arith, rest, count_first one site true passes, count_first other site true (part site passes))
      | inr fails ↦ omega (arith, rest, count_first one site false fails)
    ]

pub count_fewer :
    (one other : ℕ → Bool)
    → ((site : ℕ) → IsTrue (one site) → IsTrue (other site))
    → (sites : List ℕ) (site : ℕ)
    → IsTrue (has sites site)
    → IsTrue (other site)
    → IsFalse (one site)
    → count one sites < count other sites
unfolding count
count_fewer one other part [] site among passes fails = absurd (false≢true among)
count_fewer one other part (first ∷ sites) site among passes fails =
    elim (same_or_not first site) [
      | inl same ↦
          let rest = count_less one other part sites in
          omega (arith, rest, count_first one first false (ap one same ∙ fails), count_first other first true (ap other same ∙ passes))
      | inr differ ↦
          let behind : IsTrue (has sites site) = elim (or_cases (first == site) (has sites site) among) [
            | inl same ↦ absurd (differ (eqb-true first site same))
            | inr there ↦ there
          ] in
          let rest = count_fewer one other part sites site behind passes fails in
          elim (cases_Bool (one first)) [
            | inl first_passes ↦ omega (arith, rest, count_first one first true first_passes, count_first other first true (part first first_passes))
            | inr first_fails ↦ omega (arith, rest, count_first one first false first_fails)
          ]
    ]

-- ---- objects that add a site

-- a slot holds an object of a site that isn't marked
abbrev pub adds : (ℕ → Bool) → Slot → Bool
adds marked Plain = false
adds marked (Virt site) = not (marked site)
adds marked Unusable = false

abbrev pub adds_any : (ℕ → Bool) → Option VObject → Bool
adds_any marked None = false
adds_any marked (Some object) = list_any (adds marked) object.fields

-- a site is not marked, or its object adds one
abbrev pub is_left : (ℕ → Bool) → List VObject → ℕ → Bool
is_left marked objects site = not (marked site) || adds_any marked (object_of objects site)

pub present_among : (objects : List VObject) (site : ℕ) → IsTrue (is_present objects site) → IsTrue (has (sites_of objects) site)
present_among [] site present = absurd (false≢true present)
present_among (object ∷ objects) site present =
    elim (same_or_not object.site site) [
      | inl same ↦ or_left (object.site == site) (has (sites_of objects) site) (eq-eqb object.site site same)
      | inr differ ↦ or_right (object.site == site) (has (sites_of objects) site) (present_among objects site (subst (λ (o : Option VObject). IsTrue (Rattle.std.specs.Prelude.is_some o)) (object_behind object objects site differ) present))
    ]

-- what no slot adds is marked
added_none :
    (marked : ℕ → Bool) (slots : List Slot) (site : ℕ)
    → IsFalse (list_any (adds marked) slots)
    → IsTrue (names slots site)
    → IsTrue (marked site)
added_none marked [] site none named = absurd (false≢true named)
added_none marked (Plain ∷ slots) site none named = added_none marked slots site none named
added_none marked (Unusable ∷ slots) site none named = added_none marked slots site none named
added_none marked (Virt one ∷ slots) site none named =
    elim (cases_Bool (marked one)) [
      | inl there ↦ elim (or_cases (one == site) (names slots site) named) [
        | inl same ↦ ap marked (sym (eqb-true one site same)) ∙ there
        | inr rest ↦ added_none marked slots site (sym (ap (λ (b : Bool). b || list_any (adds marked) slots) (not_from_true (marked one) there)) ∙ none) rest
      ]
      | inr missing ↦ absurd (true≢false (sym (or_left (not (marked one)) (list_any (adds marked) slots) (not_from_false (marked one) missing)) ∙ none))
    ]

-- slots whose sites are all marked add none
adds_none :
    (marked : ℕ → Bool) (slots : List Slot)
    → ((site : ℕ) → IsTrue (names slots site) → IsTrue (marked site))
    → list_any (adds marked) slots ≡ false
adds_none marked [] all = refl
adds_none marked (Plain ∷ slots) all = adds_none marked slots all
adds_none marked (Unusable ∷ slots) all = adds_none marked slots all
adds_none marked (Virt one ∷ slots) all =
    ap (λ (b : Bool). b || list_any (adds marked) slots) (not_from_true (marked one) (all one (or_left (one == one) (names slots one) (eq-eqb one one refl))))
    ∙ adds_none marked slots (λ site named. all site (or_right (one == site) (names slots site) named))

-- more marks add no more
adds_fewer :
    (one other : ℕ → Bool) (slots : List Slot)
    → ((site : ℕ) → IsTrue (one site) → IsTrue (other site))
    → IsTrue (list_any (adds other) slots)
    → IsTrue (list_any (adds one) slots)
adds_fewer one other [] part adding = adding
adds_fewer one other (Plain ∷ slots) part adding = adds_fewer one other slots part adding
adds_fewer one other (Unusable ∷ slots) part adding = adds_fewer one other slots part adding
adds_fewer one other (Virt site ∷ slots) part adding =
    elim (or_cases (not (other site)) (list_any (adds other) slots) adding) [
      | inl missing ↦ or_left (not (one site)) (list_any (adds one) slots) (elim (cases_Bool (one site)) [
        | inl there ↦ absurd (both_ways (other site) (not-true (other site) missing) (part site there))
        | inr none ↦ not_from_false (one site) none
      ])
      | inr rest ↦ or_right (not (one site)) (list_any (adds one) slots) (adds_fewer one other slots part rest)
    ]

-- ---- the search

-- a marked site whose object adds one, or none among these
abbrev Adding : (ℕ → Bool) → List VObject → ℕ → Type 0
Adding marked objects site = IsTrue (marked site) × IsTrue (adds_any marked (object_of objects site))

some_adding :
    (marked : ℕ → Bool) (objects : List VObject) (sites : List ℕ)
    → ((site : ℕ) × IsTrue (has sites site) × Adding marked objects site)
    ⊎ ((site : ℕ) → IsTrue (has sites site) → Adding marked objects site → ⊥)
some_adding marked objects [] = inr (λ site among adding. false≢true among)
some_adding marked objects (first ∷ sites) =
    elim (some_adding marked objects sites) [
      | inl found ↦ inl (found.0, or_right (first == found.0) (has sites found.0) found.1, found.2)
      | inr none ↦ by_first (cases_Bool (marked first)) (cases_Bool (adds_any marked (object_of objects first))) none
    ] where
      others :
          (Adding marked objects first → ⊥)
          → ((site : ℕ) → IsTrue (has sites site) → Adding marked objects site → ⊥)
          → (site : ℕ) → IsTrue (has (first ∷ sites) site) → Adding marked objects site → ⊥
      others not_first none site among adding = elim (or_cases (first == site) (has sites site) among) [
        | inl same ↦ not_first (subst (Adding marked objects) (sym (eqb-true first site same)) adding)
        | inr there ↦ none site there adding
      ]

      by_first :
          (IsTrue (marked first) ⊎ IsFalse (marked first))
          → (IsTrue (adds_any marked (object_of objects first)) ⊎ IsFalse (adds_any marked (object_of objects first)))
          → ((site : ℕ) → IsTrue (has sites site) → Adding marked objects site → ⊥)
          → ((site : ℕ) × IsTrue (has (first ∷ sites) site) × Adding marked objects site)
          ⊎ ((site : ℕ) → IsTrue (has (first ∷ sites) site) → Adding marked objects site → ⊥)
      by_first (inl there) (inl adding) none = inl (first, or_left (first == first) (has sites first) (eq-eqb first first refl), (there, adding))
      by_first (inl there) (inr not_adding) none = inr (others (λ a. both_ways (adds_any marked (object_of objects first)) not_adding a.1) none)
      by_first (inr missing) adding none = inr (others (λ a. both_ways (marked first) missing a.0) none)

-- a set of sites that has what slots reach and nothing else
pub record Reach (slots : List Slot) (objects : List VObject) : Type 0 where
  pub set : ℕ → Bool
  pub only : (site : ℕ) → IsTrue (set site) → IsReached slots objects site
  pub starts : (site : ℕ) → IsTrue (names slots site) → IsTrue (set site)
  pub closed : IsClosed set objects

pub reach_all : (slots : List Slot) (objects : List VObject) (reach : Reach slots objects) → {site : ℕ} → IsReached slots objects site → IsTrue (reach.set site)
reach_all slots objects reach (from_slot site named) = reach.starts site named
reach_all slots objects reach (from_field from site reached edge) = reach.closed from site edge (reach_all slots objects reach reached)

named_edge :
    (objects : List VObject) (from to : ℕ) (object : Option VObject)
    → object_of objects from ≡ object
    → IsTrue (named_by object to)
    → IsEdge objects from to
named_edge objects from to None there named = absurd (false≢true named)
named_edge objects from to (Some object) there named = record { object = object; there = there; named = named }

adds_saturated :
    (marked : ℕ → Bool) (object : Option VObject)
    → ((site : ℕ) → IsTrue (named_by object site) → IsTrue (marked site))
    → adds_any marked object ≡ false
adds_saturated marked None all = refl
adds_saturated marked (Some object) all = adds_none marked object.fields all

adds_any_fewer :
    (one other : ℕ → Bool) (object : Option VObject)
    → ((site : ℕ) → IsTrue (one site) → IsTrue (other site))
    → IsTrue (adds_any other object)
    → IsTrue (adds_any one object)
adds_any_fewer one other None part adding = adding
adds_any_fewer one other (Some object) part adding = adds_fewer one other object.fields part adding

closed_none :
    (marked : ℕ → Bool) (objects : List VObject)
    → ((site : ℕ) → IsTrue (has (sites_of objects) site) → Adding marked objects site → ⊥)
    → IsClosed marked objects
closed_none marked objects none = λ from to edge there.
    elim (cases_Bool (list_any (adds marked) edge.object.fields)) [
      | inl adding ↦ absurd (none from (present_among objects from (present_found objects from edge.object edge.there)) (there, subst (λ (o : Option VObject). IsTrue (adds_any marked o)) (sym edge.there) adding))
      | inr kept ↦ added_none marked edge.object.fields to kept edge.named
    ]

-- what an object that adds a site adds is marked too
with_fields : (ℕ → Bool) → List VObject → ℕ → ℕ → Bool
with_fields marked objects from site = marked site || named_by (object_of objects from) site

fewer_left :
    (marked : ℕ → Bool) (objects : List VObject) (from : ℕ)
    → IsTrue (has (sites_of objects) from)
    → Adding marked objects from
    → count (is_left (with_fields marked objects from) objects) (sites_of objects) < count (is_left marked objects) (sites_of objects)
unfolding with_fields
fewer_left marked objects from among adding =
    count_fewer (is_left (with_fields marked objects from) objects) (is_left marked objects) part (sites_of objects) from among
    (or_right (not (marked from)) (adds_any marked (object_of objects from)) adding.1) saturated where
      wider : (site : ℕ) → IsTrue (marked site) → IsTrue (with_fields marked objects from site)
      wider site there = or_left (marked site) (named_by (object_of objects from) site) there

      part : (site : ℕ) → IsTrue (is_left (with_fields marked objects from) objects site) → IsTrue (is_left marked objects site)
      part site left = elim (or_cases (not (with_fields marked objects from site)) (adds_any (with_fields marked objects from) (object_of objects site)) left) [
        | inl missing ↦ or_left (not (marked site)) (adds_any marked (object_of objects site)) (elim (cases_Bool (marked site)) [
          | inl there ↦ absurd (both_ways (with_fields marked objects from site) (not-true (with_fields marked objects from site) missing) (wider site there))
          | inr none ↦ not_from_false (marked site) none
        ])
        | inr more ↦ or_right (not (marked site)) (adds_any marked (object_of objects site)) (adds_any_fewer marked (with_fields marked objects from) (object_of objects site) wider more)
      ]

      saturated : is_left (with_fields marked objects from) objects from ≡ false
      saturated =
          ap (λ (b : Bool). b || adds_any (with_fields marked objects from) (object_of objects from)) (not_from_true (with_fields marked objects from from) (wider from adding.0))
          ∙ adds_saturated (with_fields marked objects from) (object_of objects from) (λ site named. or_right (marked site) (named_by (object_of objects from) site) named)

reach_from :
    (slots : List Slot) (objects : List VObject) (fuel : ℕ) (marked : ℕ → Bool)
    → ((site : ℕ) → IsTrue (marked site) → IsReached slots objects site)
    → ((site : ℕ) → IsTrue (names slots site) → IsTrue (marked site))
    → count (is_left marked objects) (sites_of objects) ≤ fuel
    → Reach slots objects
unfolding with_fields
reach_from slots objects zero marked only starts few =
    elim (some_adding marked objects (sites_of objects)) [
      | inr none ↦ record { set = marked; only = only; starts = starts; closed = closed_none marked objects none }
      | inl found ↦
          let less = fewer_left marked objects found.0 found.1 found.2 in
          absurd (omega (arith, less, few))
    ]
reach_from slots objects (suc fuel) marked only starts few =
    elim (some_adding marked objects (sites_of objects)) [
      | inr none ↦ record { set = marked; only = only; starts = starts; closed = closed_none marked objects none }
      | inl found ↦
          let less = fewer_left marked objects found.0 found.1 found.2 in
          reach_from slots objects fuel (with_fields marked objects found.0)
          (λ site there. elim (or_cases (marked site) (named_by (object_of objects found.0) site) there) [
            | inl before ↦ only site before
            | inr named ↦ from_field found.0 site (only found.0 found.2.0) (named_edge objects found.0 site (object_of objects found.0) refl named)
          ])
          (λ site named. or_left (marked site) (named_by (object_of objects found.0) site) (starts site named))
          (omega (arith, less, few))
    ]

-- what slots reach can be told
pub reach : (slots : List Slot) (objects : List VObject) → Reach slots objects
reach slots objects =
    reach_from slots objects (count (is_left (names slots) objects) (sites_of objects)) (names slots)
    (λ site named. from_slot site named) (λ site named. named) (omega arith)
