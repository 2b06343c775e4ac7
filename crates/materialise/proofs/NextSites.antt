-- The least of those sites that are left whose object can be made, found by a scan of the sites.
use Rattle.std.proofs.Common.{◌≡◌, ◌==◌, ◌⊎◌, ◌<◌, ◌≤◌, ℕ, zero, suc, Bool, true, false, not, List, [], ◌∷◌, ◌++◌, take, slice_get, Some, None, IsTrue, refl, sym, ap, subst, ◌∙◌, inl, inr, arith}
use Rattle.std.specs.List.{AllByRecursion}
use Rattle.std.proofs.lemmas.Bool.{or_cases, or_left, or_right, eq-eqb, eqb-true, false≢true, true≢false}
use Rattle.std.proofs.lemmas.List.Folds.{list_any-append}
use Rattle.std.proofs.lemmas.Option.{none-some, same_Some}
use Rattle.making_code.specs.MakeOrder.{ComesNext, left_of, names_one}
use Rattle.making_code.specs.Laws.MakeOrders.{left_is}
use Rattle.materialise.proofs.OrderLaws.{left_parts}
use Rattle.materialise.specs.Inner.OrderWords.{IsNext}
use Rattle.virtual_state.specs.Sites.{has}
use Rattle.virtual_state.specs.States.{IsIncreasing}
use Rattle.virtual_state.specs.declared.slot.VObject.{VObject}

-- each of the sites that were passed is made, or its object cannot be made
abbrev pub NoneSoFar : List VObject → List ℕ → List ℕ → List ℕ → Type 0
NoneSoFar objects sites made front =
    (one : ℕ) → IsTrue (has front one) → has made one ≡ false → IsTrue (names_one objects (left_of sites made) one)

pub none_first : (objects : List VObject) (sites made : List ℕ) → NoneSoFar objects sites made []
none_first objects sites made one there unmade = absurd (false≢true there)

-- one more site is passed
pub none_more : (objects : List VObject) (sites made front : List ℕ) (site : ℕ)
    → (has made site ≡ true) ⊎ IsTrue (names_one objects (left_of sites made) site)
    → NoneSoFar objects sites made front
    → NoneSoFar objects sites made (front ++ site ∷ [])
none_more objects sites made front site passed so_far one there unmade =
    elim (or_cases (has front one) (has (site ∷ []) one) (sym (list_any-append (λ (n : ℕ). n == one) front (site ∷ [])) ∙ there)) [
      | inl before ↦ so_far one before unmade
      | inr last ↦
          let same : site ≡ one = elim (or_cases (site == one) false last) [ inl is ↦ eqb-true site one is | inr never ↦ absurd (false≢true never) ] in
          elim passed [
            | inl is_made ↦ absurd (true≢false (sym is_made ∙ ap (has made) same ∙ unmade))
            | inr named ↦ subst (λ (n : ℕ). IsTrue (names_one objects (left_of sites made) n)) same named
          ]
    ]

-- what stands in an increasing list is in front of a place, or no less than the site there
before_or_above : (sites : List ℕ) (at site other : ℕ)
    → IsIncreasing sites
    → slice_get sites at ≡ Some site
    → IsTrue (has sites other)
    → IsTrue (has (take at sites) other) ⊎ (site ≤ other)
before_or_above [] at site other order is there = absurd (false≢true there)
before_or_above (first ∷ sites) zero site other order is there =
    let same : first ≡ site = same_Some first site is in
    elim (or_cases (first == other) (has sites other) there) [
      | inl here ↦ inr (let e = eqb-true first other here in omega (arith, e, same))
      | inr behind ↦ inr (let less = above sites first other order.0 behind in omega (arith, less, same))
    ] where
      above : (sites : List ℕ) (low other : ℕ) → AllByRecursion (λ one. low < one) sites → IsTrue (has sites other) → low < other
      above [] low other all there = absurd (false≢true there)
      above (one ∷ sites) low other all there =
          elim (or_cases (one == other) (has sites other) there) [
            | inl here ↦ subst (λ (n : ℕ). low < n) (eqb-true one other here) all.0
            | inr behind ↦ above sites low other all.1 behind
          ]
before_or_above (first ∷ sites) (suc at) site other order is there =
    elim (or_cases (first == other) (has sites other) there) [
      | inl here ↦ inl (or_left (first == other) (has (take at sites) other) here)
      | inr behind ↦ elim (before_or_above sites at site other order.1 is behind) [
        | inl before ↦ inl (or_right (first == other) (has (take at sites) other) before)
        | inr more ↦ inr more
      ]
    ]

pub not_true : (b : Bool) → not b ≡ true → b ≡ false
not_true true is = absurd (false≢true is)
not_true false is = refl

there_is : (sites : List ℕ) (at site : ℕ) → slice_get sites at ≡ Some site → IsTrue (has sites site)
there_is [] at site is = absurd (none-some site is)
there_is (first ∷ sites) zero site is = or_left (first == site) (has sites site) (eq-eqb first site (same_Some first site is))
there_is (first ∷ sites) (suc at) site is = or_right (first == site) (has sites site) (there_is sites at site is)

pub found_next : (objects : List VObject) (sites made : List ℕ) (at site : ℕ)
    → IsIncreasing sites
    → slice_get sites at ≡ Some site
    → has made site ≡ false
    → names_one objects (left_of sites made) site ≡ false
    → NoneSoFar objects sites made (take at sites)
    → ComesNext objects (left_of sites made) site
found_next objects sites made at site order is unmade ready so_far = record {
  left_over = left_is sites made site (there_is sites at site is) unmade;
  ready = ready;
  least = λ other left other_ready.
      let parts = left_parts sites made other left in
      let other_unmade = not_true (has made other) parts.0 in
      elim (before_or_above sites at site other order is parts.1) [
        | inl before ↦ absurd (true≢false (sym (so_far other before other_unmade) ∙ other_ready))
        | inr above ↦ above
      ];
}

pub none_next : (objects : List VObject) (sites made : List ℕ)
    → NoneSoFar objects sites made sites
    → IsNext objects (left_of sites made) None
none_next objects sites made so_far site left =
    let parts = left_parts sites made site left in
    so_far site parts.1 (not_true (has made site) parts.0)
