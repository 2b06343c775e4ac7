-- The objects that are made in an order are those of the sites that are to be made.
use Rattle.std.proofs.Common.{if◌then◌else◌, ◌≡◌, ◌<◌, ◌+◌, ◌==◌, ◌||◌, ℕ, zero, suc, Bool, true, false, not, List, [], ◌∷◌, filter, length, replicate, slice_get, Option, Some, None, is_some, IsTrue, refl, sym, ap, subst, ◌∙◌, arith}
use Rattle.std.specs.List.{AllByRecursion}
use Rattle.std.proofs.lemmas.Bool.{eqb-true, false≢true}
use Rattle.class_rewrite.proofs.TalliedItems.{on_place}
use Rattle.class_rewrite.proofs.Tallies.{tally, tally_both}
use Rattle.class_tree.specs.Headers.{Name}
use Rattle.flow_code.specs.declared.point.Site.{Site}
use Rattle.making_code.specs.MakeOrder.{IsMakeOrder, all_made, one_next}
use Rattle.plan_flow.specs.PlanScope.{PlanScope}
use Rattle.plan_flow.specs.Written.Places.{enters_monitor, made_places, site_places}
use Rattle.virtual_state.specs.Sites.{has}
use Rattle.virtual_state.specs.States.{IsIncreasing, State, is_present, object_of}
use Rattle.virtual_state.specs.declared.slot.VObject.{VObject}

-- ---- sets by increasing site

abbrev other_than : ℕ → ℕ → Bool
other_than site other = not (other == site)

all_filtered : (test : ℕ → Bool) (site : ℕ) (sites : List ℕ)
    → AllByRecursion (λ other. site < other) sites
    → AllByRecursion (λ other. site < other) (filter test sites)
all_filtered test site [] all = tt
all_filtered test site (one ∷ sites) all = by (test one) refl (all_filtered test site sites all.1) where
  by : (b : Bool) → test one ≡ b → AllByRecursion (λ other. site < other) (filter test sites)
      → AllByRecursion (λ other. site < other) (filter test (one ∷ sites))
  by true is rest = rw (is) (all.0, rest)
  by false is rest = rw (is) rest

increasing_filtered : (test : ℕ → Bool) (sites : List ℕ) → IsIncreasing sites → IsIncreasing (filter test sites)
increasing_filtered test [] order = tt
increasing_filtered test (site ∷ sites) order = by (test site) refl (increasing_filtered test sites order.1) where
  by : (b : Bool) → test site ≡ b → IsIncreasing (filter test sites) → IsIncreasing (filter test (site ∷ sites))
  by true is rest = rw (is) (all_filtered test site sites order.0, rest)
  by false is rest = rw (is) rest

has_filtered : (test : ℕ → Bool) (sites : List ℕ) (site : ℕ) → has (filter test sites) site ≡ true → has sites site ≡ true
has_filtered test [] site there = there
has_filtered test (one ∷ sites) site there = by (test one) refl (one == site) refl there (has_filtered test sites site) where
  by : (kept : Bool) → test one ≡ kept → (same : Bool) → (one == site) ≡ same
      → has (filter test (one ∷ sites)) site ≡ true
      → (has (filter test sites) site ≡ true → has sites site ≡ true)
      → has (one ∷ sites) site ≡ true
  by kept told true same there rest = rw (same) refl
  by true told false same there rest =
      let behind : has (filter test (one ∷ sites)) site ≡ has (filter test sites) site = rw (told, same) refl in
      rw (same) (rest (sym behind ∙ there))
  by false told false same there rest =
      let behind : has (filter test (one ∷ sites)) site ≡ has (filter test sites) site = rw (told) refl in
      rw (same) (rest (sym behind ∙ there))

-- the sites above one
none_dropped : (site : ℕ) (sites : List ℕ) → AllByRecursion (λ other. site < other) sites → filter (other_than site) sites ≡ sites
none_dropped site [] all = refl
none_dropped site (one ∷ sites) all = by (one == site) refl (none_dropped site sites all.1) where
  by : (same : Bool) → (one == site) ≡ same → filter (other_than site) sites ≡ sites → filter (other_than site) (one ∷ sites) ≡ one ∷ sites
  by true same rest = let equal = eqb-true one site same in let less = all.0 in absurd (omega (arith, equal, less))
  by false same rest = rw (same) (ap (λ (others : List ℕ). one ∷ others) rest)

one_dropped : (on : ℕ → Bool) (site : ℕ) (sites : List ℕ) → IsIncreasing sites → has sites site ≡ true
    → tally on sites ≡ (if on site then 1 else 0) + tally on (filter (other_than site) sites)
one_dropped on site [] order there = absurd (false≢true there)
one_dropped on site (one ∷ sites) order there = by (one == site) refl there (one_dropped on site sites order.1) where
  by : (same : Bool) → (one == site) ≡ same
      → (same || has sites site) ≡ true
      → (has sites site ≡ true → tally on sites ≡ (if on site then 1 else 0) + tally on (filter (other_than site) sites))
      → tally on (one ∷ sites) ≡ (if on site then 1 else 0) + tally on (filter (other_than site) (one ∷ sites))
  by true same either rest =
      let equal = eqb-true one site same in
      let behind : filter (other_than site) (one ∷ sites) ≡ sites =
      rw (same) (none_dropped site sites (subst (λ (n : ℕ). AllByRecursion (λ other. n < other) sites) equal order.0)) in
      rw (behind) (ap (λ (n : ℕ). (if on n then 1 else 0) + tally on sites) equal)
  by false same either rest =
      let behind = rest either in
      let kept : filter (other_than site) (one ∷ sites) ≡ one ∷ filter (other_than site) sites = rw (same) refl in
      rw (kept) (omega (arith, behind))

-- ---- objects

there_is : {A : Type 0} (items : List A) (number : ℕ) → number < length items → (item : A) × (slice_get items number ≡ Some item)
there_is [] number few = absurd (omega (arith, few))
there_is (first ∷ items) zero few = (first, refl)
there_is (first ∷ items) (suc number) few = there_is items number (omega (arith, few))

present_is : (found : Option VObject) → is_some found ≡ true → (object : VObject) × (found ≡ Some object)
present_is None there = absurd (false≢true there)
present_is (Some object) there = (object, refl)

module _ (s : PlanScope) (on : Name → Bool) (of : ℕ → Bool)
    (agrees : (site : ℕ) (one : Site) → slice_get s.flat.sites site ≡ Some one → of site ≡ on one.class) where
  -- a present object of a site of the flat code
  pub record CanBeMade (state : State) (site : ℕ) : Type 0 where
    pub present : IsTrue (is_present state.objects site)
    pub inside : site < length s.flat.sites

  none_entered : (count : ℕ) → tally (on_place on) (replicate count enters_monitor) ≡ 0
  none_entered zero = refl
  none_entered (suc count) = let rest = none_entered count in omega (arith, rest)

  site_tallied : (state : State) (site : ℕ) → CanBeMade state site → tally (on_place on) (site_places s state site) ≡ (if of site then 1 else 0)
  site_tallied state site can =
      let one = there_is s.flat.sites site can.inside in
      let object = present_is (object_of state.objects site) can.present in
      let entered = none_entered object.0.depth in
      let same = agrees site one.0 one.1 in
      rw (one.1, object.1, same) (omega (arith, entered))

  -- What is made in an order is what is to be made.
  pub order_tallied : (state : State) (left order : List ℕ) → IsMakeOrder state.objects left order
      → IsIncreasing left
      → ((site : ℕ) → has left site ≡ true → CanBeMade state site)
      → tally (on_place on) (made_places s state order) ≡ tally of left
  order_tallied state [] [] all_made increasing each = refl
  order_tallied state (first ∷ left) [] is increasing each = elim is [ ]
  order_tallied state left (site ∷ order) (one_next _ _ _ next more) increasing each =
      let both = tally_both (on_place on) (site_places s state site) (made_places s state order) in
      let here = site_tallied state site (each site next.left_over) in
      let dropped = one_dropped of site left increasing next.left_over in
      let rest =
      order_tallied state (filter (other_than site) left) order more (increasing_filtered (other_than site) left increasing)
      (λ other there. each other (has_filtered (other_than site) left other there)) in
      omega (arith, both, here, dropped, rest)
