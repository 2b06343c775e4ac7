-- Sites by increasing number: searching, and adding one.
use Rattle.std.proofs.Common.{◌≡◌, ◌≢◌, ◌⊎◌, ◌==◌, ◌||◌, ◌<◌, ◌≤◌, ℕ, zero, suc, Bool, true, false, List, [], ◌∷◌, ◌++◌, length, take, drop, get_or, Result, Ok, Err, IsFalse, refl, sym, ap, ◌∙◌, inl, inr, arith}
use Rattle.std.specs.List.{AllByRecursion}
use Rattle.std.specs.List.Sorted.{IsBinarySearchResult}
use Rattle.std.specs.Ordering.{nat_cmp}
use Rattle.std.specs.Result.{is_ok}
use Rattle.std.proofs.lemmas.Bool.{cases_lt, eq-eqb, ne_eqb, or_from}
use Rattle.std.proofs.lemmas.List.Folds.{list_any_at, list_any-append}
use Rattle.std.proofs.lemmas.List.Sorted.{searched}
use Rattle.virtual_state.specs.Inner.Places.{IsGap, IsPlaceOf}
use Rattle.virtual_state.specs.Sites.{has}
use Rattle.virtual_state.specs.States.{IsIncreasing}

all_at : (P : ℕ → Type 0) (sites : List ℕ) → AllByRecursion P sites → (at : ℕ) → at < length sites → P (get_or sites at 0)
all_at P [] all at within = absurd (omega arith)
all_at P (site ∷ sites) all zero within = all.0
all_at P (site ∷ sites) all (suc at) within = all_at P sites all.1 at (omega arith)

all_from : (P : ℕ → Type 0) (sites : List ℕ) → ((at : ℕ) → at < length sites → P (get_or sites at 0)) → AllByRecursion P sites
all_from P [] each = tt
all_from P (site ∷ sites) each = (each 0 (omega arith), all_from P sites (λ at within. each (suc at) (omega arith)))

rising : (sites : List ℕ) → IsIncreasing sites → (low high : ℕ) → low ≤ high → high < length sites → get_or sites low 0 ≤ get_or sites high 0
rising [] order low high below within = absurd (omega arith)
rising (site ∷ sites) order zero zero below within = omega arith
rising (site ∷ sites) order zero (suc high) below within = let less = all_at (λ other. site < other) sites order.0 high (omega arith) in omega arith
rising (site ∷ sites) order (suc low) zero below within = absurd (omega arith)
rising (site ∷ sites) order (suc low) (suc high) below within = rising sites order.1 low high (omega arith) (omega arith)

-- what a binary search answers
pub place_is_found : (sites : List ℕ) (site : ℕ) (result : Result ℕ ℕ) → IsIncreasing sites → IsBinarySearchResult (λ one. nat_cmp one site) sites result → IsPlaceOf sites site result
place_is_found sites site (Ok at) order search_result =
    let found = searched sites site (Ok at) search_result (rising sites order) in
    list_any_at (λ one. one == site) sites at 0 found.0 (eq-eqb (get_or sites at 0) site found.1)
place_is_found sites site (Err at) order search_result =
    let gap = searched sites site (Err at) search_result (rising sites order) in
    record { within = gap.0; before = gap.1; behind = gap.2 }

not_there : (sites : List ℕ) (site : ℕ) → ((at : ℕ) → at < length sites → get_or sites at 0 ≢ site) → has sites site ≡ false
not_there [] site none = refl
not_there (one ∷ sites) site none = or_from (one == site) (has sites site) (ne_eqb one site (none 0 (omega arith))) (not_there sites site (λ at within. none (suc at) (omega arith)))

pub gap_is_free : (sites : List ℕ) (site at : ℕ) → IsGap sites site at → IsFalse (has sites site)
gap_is_free sites site at gap = not_there sites site (λ index within same. by_cases index within same (index_cases index)) where
  index_cases : (index : ℕ) → (index < at) ⊎ (at ≤ index)
  index_cases index = cases_lt index at

  by_cases : (index : ℕ) → index < length sites → get_or sites index 0 ≡ site → (index < at) ⊎ (at ≤ index) → ⊥
  by_cases index within same (inl low) = let less = gap.before index low in omega arith
  by_cases index within same (inr high) = let more = gap.behind index high within in omega arith

or_move : (a b c : Bool) → (a || (b || c)) ≡ ((a || c) || b)
or_move true b c = refl
or_move false true true = refl
or_move false true false = refl
or_move false false true = refl
or_move false false false = refl

pub has_insert : (sites : List ℕ) (site at one : ℕ) → has (take at sites ++ site ∷ drop at sites) one ≡ (has sites one || site == one)
has_insert sites site at one =
    list_any-append (λ number. number == one) (take at sites) (site ∷ drop at sites)
    ∙ or_move (has (take at sites) one) (site == one) (has (drop at sites) one)
    ∙ ap (λ (b : Bool). b || site == one) (sym (list_any-append (λ number. number == one) (take at sites) (drop at sites)))
    ∙ ap (λ (list : List ℕ). has list one || site == one) (take_drop sites at) where
      take_drop : (sites : List ℕ) (at : ℕ) → take at sites ++ drop at sites ≡ sites
      take_drop [] zero = refl
      take_drop [] (suc at) = refl
      take_drop (first ∷ sites) zero = refl
      take_drop (first ∷ sites) (suc at) = ap (λ (rest : List ℕ). first ∷ rest) (take_drop sites at)

all_insert : (P : ℕ → Type 0) (sites : List ℕ) (site at : ℕ) → AllByRecursion P sites → P site → AllByRecursion P (take at sites ++ site ∷ drop at sites)
all_insert P [] site zero all here = (here, tt)
all_insert P [] site (suc at) all here = (here, tt)
all_insert P (first ∷ sites) site zero all here = (here, all)
all_insert P (first ∷ sites) site (suc at) all here = (all.0, all_insert P sites site at all.1 here)

pub insert_in_order : (sites : List ℕ) (site at : ℕ) → IsIncreasing sites → IsGap sites site at → IsIncreasing (take at sites ++ site ∷ drop at sites)
insert_in_order [] site zero order gap = (tt, tt)
insert_in_order [] site (suc at) order gap = (tt, tt)
insert_in_order (first ∷ sites) site zero order gap = (all_from (λ other. site < other) (first ∷ sites) (λ at within. gap.behind at (omega arith) within), order)
insert_in_order (first ∷ sites) site (suc at) order gap =
    let rest : IsGap sites site at = record {
      within = let whole = gap.within in omega arith;
      before = λ index low. gap.before (suc index) (omega arith);
      behind = λ index high within. gap.behind (suc index) (omega arith) (omega arith);
    } in
    (all_insert (λ other. first < other) sites site at order.0 (gap.before 0 (omega arith)), insert_in_order sites site at order.1 rest)

pub place_tells : (sites : List ℕ) (site : ℕ) (result : Result ℕ ℕ) → IsPlaceOf sites site result → is_ok result ≡ has sites site
place_tells sites site (Ok at) found = sym found
place_tells sites site (Err at) gap = sym (gap_is_free sites site at gap)
