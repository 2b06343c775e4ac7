-- How many items of a list pass a test.
use Rattle.std.proofs.Common.{if◌then◌else◌, ◌≡◌, ◌≤◌, ◌+◌, ◌==◌, ◌||◌, ℕ, zero, suc, Bool, true, false, List, [], ◌∷◌, ◌++◌, count_by, length, slice_get, Some, refl, ap, ◌∙◌, arith}
use Rattle.std.proofs.lemmas.Bool.{eq-eqb, eqb-true, false≢true}
use Rattle.std.proofs.lemmas.List.Sums.{sum_by-cons}
use Rattle.std.proofs.lemmas.Option.{none-some, same_Some}
use Rattle.virtual_state.specs.Sites.{has}

abbrev pub tally : {A : Type 0} → (A → Bool) → List A → ℕ
tally test [] = 0
tally test (one ∷ others) = (if test one then 1 else 0) + tally test others

pub tally_both : {A : Type 0} (test : A → Bool) (left right : List A) → tally test (left ++ right) ≡ tally test left + tally test right
tally_both test [] right = omega arith
tally_both test (one ∷ left) right = let rest = tally_both test left right in omega (arith, rest)

pub counted : {A : Type 0} (test : A → Bool) (items : List A) → count_by test items ≡ tally test items
counted test [] = refl
counted {A = A} test (one ∷ items) =
    sum_by-cons (λ (one : A). if test one then 1 else 0) one items ∙ ap (λ (n : ℕ). (if test one then 1 else 0) + n) (counted test items)

pub tally_few : {A : Type 0} (test : A → Bool) (items : List A) → tally test items ≤ length items
tally_few test [] = omega arith
tally_few test (one ∷ items) = by (test one) (tally_few test items) where
  by : (here : Bool) → tally test items ≤ length items → (if here then 1 else 0) + tally test items ≤ length (one ∷ items)
  by true rest = omega (arith, rest)
  by false rest = omega (arith, rest)

-- where all pass
pub all_tallied : (items : List ℕ) → tally (λ one. true) items ≡ length items
all_tallied [] = refl
all_tallied (one ∷ items) = let rest = all_tallied items in omega (arith, rest)

-- ---- some pass

pub some_tallied : {A : Type 0} (test : A → Bool) (items : List A) (number : ℕ) (item : A)
    → slice_get items number ≡ Some item
    → test item ≡ true
    → 1 ≤ tally test items
some_tallied test [] number item is passes = absurd (none-some item is)
some_tallied test (first ∷ items) zero item is passes =
    let here : test first ≡ true = ap test (same_Some first item is) ∙ passes in rw here (omega arith)
some_tallied test (first ∷ items) (suc number) item is passes =
    let rest = some_tallied test items number item is passes in omega (arith, rest)

pub record Passes {A : Type 0} (test : A → Bool) (items : List A) : Type 0 where
  pub number : ℕ
  pub item : A
  pub is : slice_get items number ≡ Some item
  pub passes : test item ≡ true

pub one_passes : {A : Type 0} (test : A → Bool) (items : List A) → 1 ≤ tally test items → Passes test items
one_passes test [] some = absurd (omega (arith, some))
one_passes {A = A} test (first ∷ items) some = by (test first) refl some (one_passes test items) where
  by : (here : Bool) → test first ≡ here
      → 1 ≤ (if here then 1 else 0) + tally test items
      → (1 ≤ tally test items → Passes test items)
      → Passes test (first ∷ items)
  by true told some rest = record { number = 0; item = first; is = refl; passes = told }
  by false told some rest =
      let found = rest (omega (arith, some)) in
      record { number = suc found.number; item = found.item; is = found.is; passes = found.passes }

-- ---- sets

pub has_item : (sites : List ℕ) (number site : ℕ) → slice_get sites number ≡ Some site → has sites site ≡ true
has_item [] number site is = absurd (none-some site is)
has_item (first ∷ sites) zero site is = rw (eq-eqb first site (same_Some first site is)) refl
has_item (first ∷ sites) (suc number) site is = by (first == site) (has_item sites number site is) where
  by : (here : Bool) → has sites site ≡ true → (here || has sites site) ≡ true
  by true there = refl
  by false there = there

pub item_had : (sites : List ℕ) (site : ℕ) → has sites site ≡ true → (number : ℕ) × (slice_get sites number ≡ Some site)
item_had [] site there = absurd (false≢true there)
item_had (first ∷ sites) site there = by (first == site) refl there (item_had sites site) where
  by : (here : Bool) → (first == site) ≡ here
      → (here || has sites site) ≡ true
      → (has sites site ≡ true → (number : ℕ) × (slice_get sites number ≡ Some site))
      → (number : ℕ) × (slice_get (first ∷ sites) number ≡ Some site)
  by true told either rest = (0, ap (λ (n : ℕ). Some n) (eqb-true first site told))
  by false told either rest = let found = rest either in (suc found.0, found.1)
