-- Numbers that are one of a list.
use Rattle.std.proofs.Common.{◌≡◌, ◌⊎◌, ◌==◌, ℕ, ◌<◌, Bool, List, [], ◌∷◌, ◌++◌, length, get_or, refl, sym, ap, ◌∙◌, inl, inr}
use Rattle.std.specs.List.{list_any}
use Rattle.std.proofs.lemmas.Bool.{false≢true, both_ways, cases_Bool, or_cases, or_left, eqb-true, eq-eqb}
use Rattle.std.proofs.lemmas.List.Folds.{list_any-append, list_any_at}
use Rattle.class_tree.specs.Inner.Graphs.{IsOneOf, IsNoneOf}

abbrev pub is_number : ℕ → ℕ → Bool
is_number number = λ one. one == number

pub one_or_none : (numbers : List ℕ) (number : ℕ) → IsOneOf numbers number ⊎ IsNoneOf numbers number
one_or_none numbers number = cases_Bool (list_any (is_number number) numbers)

pub not_both : (numbers : List ℕ) (number : ℕ) → IsOneOf numbers number → ¬ IsNoneOf numbers number
not_both numbers number one none = both_ways (list_any (is_number number) numbers) none one

-- ---- lists end to end

pub one_of_front : (front back : List ℕ) (number : ℕ) → IsOneOf front number → IsOneOf (front ++ back) number
one_of_front front back number one = list_any-append (is_number number) front back ∙ or_left _ _ one

pub one_of_parts : (front back : List ℕ) (number : ℕ) → IsOneOf (front ++ back) number → IsOneOf front number ⊎ IsOneOf back number
one_of_parts front back number one = or_cases _ _ (sym (list_any-append (is_number number) front back) ∙ one)

pub one_of_single : (single number : ℕ) → IsOneOf (single ∷ []) number → single ≡ number
one_of_single single number one = elim (or_cases _ _ one) [ inl here ↦ eqb-true single number here | inr there ↦ absurd (false≢true there) ]

-- ---- places

pub one_at : (numbers : List ℕ) (at : ℕ) → at < length numbers → IsOneOf numbers (get_or numbers at 0)
one_at numbers at within = list_any_at (is_number (get_or numbers at 0)) numbers at 0 within (eq-eqb _ _ refl)

-- the number stands in the list, with these before and behind it
pub record Split (numbers : List ℕ) (number : ℕ) : Type 0 where
  pub before : List ℕ
  pub after : List ℕ
  pub is : numbers ≡ before ++ number ∷ after

split_behind : (first : ℕ) (numbers : List ℕ) (number : ℕ) → Split numbers number → Split (first ∷ numbers) number
split_behind first numbers number split = record { before = first ∷ split.before; after = split.after; is = ap (λ (rest : List ℕ). first ∷ rest) split.is }

pub split_at : (numbers : List ℕ) (number : ℕ) → IsOneOf numbers number → Split numbers number
split_at [] number one = absurd (false≢true one)
split_at (first ∷ numbers) number one =
    elim (or_cases _ _ one) [
      | inl here ↦ record { before = []; after = numbers; is = ap (λ (n : ℕ). n ∷ numbers) (eqb-true first number here) }
      | inr there ↦ split_behind first numbers number (split_at numbers number there)
    ]
