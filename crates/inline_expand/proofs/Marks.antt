-- Marks of what passes a test.
use Rattle.std.proofs.Common.{◌≡◌, ◌+◌, ◌<◌, ◌≤◌, ◌||◌, ◌++◌, ℕ, Bool, true, false, List, [], ◌∷◌, length, replicate, take, get_or, refl, sym, ap, ◌∙◌, arith}
use Rattle.std.specs.List.{list_any}
use Rattle.std.proofs.lemmas.List.{get_or-replicate, length-replicate, take-append-le, take_all, take_more}
use Rattle.std.proofs.lemmas.List.Folds.{list_any-append}
use Rattle.inline_expand.specs.Inner.StoreWords.{AreMarks}

pub or_no : (b : Bool) → (b || false) ≡ b
or_no true = refl
or_no false = refl

or_assoc : (a b c : Bool) → ((a || b) || c) ≡ (a || (b || c))
or_assoc true b c = refl
or_assoc false b c = refl

-- the same test
pub same_marks : (marks : List Bool) (count : ℕ) (test other : ℕ → Bool) → ((number : ℕ) → test number ≡ other number) → AreMarks marks count test → AreMarks marks count other
same_marks marks count test other same are = record { len = are.len; each = λ number within. are.each number within ∙ same number }

module _ {X : Type 0} (passes : ℕ → X → Bool) where
  pub any_none : (marks : List Bool) (count : ℕ) (test : ℕ → Bool) (xs : List X) → AreMarks marks count test → AreMarks marks count (λ number. test number || list_any (passes number) (take 0 xs))
  any_none marks count test xs are = same_marks marks count test (λ number. test number || list_any (passes number) (take 0 xs)) (λ number. sym (or_no (test number))) are

  any_step : (number : ℕ) (xs : List X) (i : ℕ) (d : X) → i < length xs
      → list_any (passes number) (take (i + 1) xs) ≡ (list_any (passes number) (take i xs) || passes number (get_or xs i d))
  any_step number xs i d within =
      ap (list_any (passes number)) (take_more xs i d within)
      ∙ list_any-append (passes number) (take i xs) (get_or xs i d ∷ [])
      ∙ ap (λ (b : Bool). list_any (passes number) (take i xs) || b) (or_no (passes number (get_or xs i d)))

  pub any_more : (marks : List Bool) (count : ℕ) (test : ℕ → Bool) (xs : List X) (i : ℕ) (x : X) → i < length xs → x ≡ get_or xs i x
      → AreMarks marks count (λ number. (test number || list_any (passes number) (take i xs)) || passes number x)
      → AreMarks marks count (λ number. test number || list_any (passes number) (take (i + 1) xs))
  any_more marks count test xs i x within is are =
      same_marks marks count _ (λ number. test number || list_any (passes number) (take (i + 1) xs))
      (λ number. or_assoc (test number) (list_any (passes number) (take i xs)) (passes number x)
      ∙ ap (λ (b : Bool). test number || b) (ap (λ (y : X). list_any (passes number) (take i xs) || passes number y) is ∙ sym (any_step number xs i x within)))
      are

  pub any_all : (marks : List Bool) (count : ℕ) (test : ℕ → Bool) (xs : List X) (i : ℕ) → length xs ≤ i
      → AreMarks marks count (λ number. test number || list_any (passes number) (take i xs))
      → AreMarks marks count (λ number. test number || list_any (passes number) xs)
  any_all marks count test xs i end are =
      same_marks marks count _ (λ number. test number || list_any (passes number) xs)
      (λ number. ap (λ (l : List X). test number || list_any (passes number) l) (take_all i xs end)) are

-- marks in a vector, behind a call that wrote them
pub written : (marks rest : List Bool) (count : ℕ) → length marks ≡ count → take count (marks ++ rest) ≡ marks
written marks rest count same = take-append-le count marks rest (omega (arith, same)) ∙ take_all count marks (omega (arith, same))

-- none is marked at first
pub unmarked : (count : ℕ) → AreMarks (replicate count false) count (λ number. false)
unmarked count = record { len = length-replicate count false; each = λ number within. get_or-replicate count number false false within }
