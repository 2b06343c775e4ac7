-- The number of the first in a list that passes a test, in the forms that definitions have of it, and in lists that are joined or
-- mapped.
use Rattle.std.proofs.Common.{◌≡◌, ◌+◌, ℕ, zero, suc, Bool, true, false, cond, List, [], ◌∷◌, ◌++◌, length, map, Option, Some, None, option_map, refl, ap, ◌∙◌, arith}
use Rattle.std.specs.List.{position_from}
use Rattle.class_tree.specs.Order.{first_place}
use Rattle.member_link.specs.Machine.Programs.{number_of_first}

later : (found : Option ℕ) → option_map suc found ≡ option_map (λ place. place + 1) found
later None = refl
later (Some place) = ap Some (omega arith)

pub number_is_place :
    {A : Type 0} (test : A → Bool) (xs : List A) → number_of_first test xs ≡ first_place test xs
number_is_place test [] = refl
number_is_place test (x ∷ xs) = ap (λ found. cond (test x) (Some 0) found) (ap (option_map suc) (number_is_place test xs) ∙ later (first_place test xs))

-- in a list that is mapped
pub number_of_mapped :
    {A B : Type 0} (test : B → Bool) (f : A → B) (xs : List A)
    → number_of_first (λ x. test (f x)) xs ≡ number_of_first test (map f xs)
number_of_mapped test f [] = refl
number_of_mapped test f (x ∷ xs) = ap (λ found. cond (test (f x)) (Some 0) (option_map suc found)) (number_of_mapped test f xs)

-- the same by tests that are the same
pub number_by_same :
    {A : Type 0} (one other : A → Bool) (xs : List A)
    → ((x : A) → one x ≡ other x)
    → number_of_first one xs ≡ number_of_first other xs
number_by_same one other [] same = refl
number_by_same one other (x ∷ xs) same =
    ap (λ test. cond test (Some 0) (option_map suc (number_of_first one xs))) (same x)
    ∙ ap (λ found. cond (other x) (Some 0) (option_map suc found)) (number_by_same one other xs same)

-- as a position counted from a number
pub number_from :
    {A : Type 0} (test : A → Bool) (i : ℕ) (xs : List A)
    → position_from test i xs ≡ option_map (λ n. i + n) (number_of_first test xs)
number_from test i [] = refl
number_from test i (x ∷ xs) = by (test x) (number_of_first test xs) (number_from test (i + 1) xs)
  where
    by :
        (passes : Bool) (found : Option ℕ)
        → position_from test (i + 1) xs ≡ option_map (λ n. (i + 1) + n) found
        → cond passes (Some i) (position_from test (i + 1) xs)
        ≡ option_map (λ n. i + n) (cond passes (Some 0) (option_map suc found))
    by true found later = ap Some (omega arith)
    by false None later = later
    by false (Some n) later = later ∙ ap Some (omega arith)

pub from_start : {A : Type 0} (test : A → Bool) (xs : List A) → position_from test 0 xs ≡ number_of_first test xs
from_start test xs = number_from test 0 xs ∙ by (number_of_first test xs)
  where
    by : (found : Option ℕ) → option_map (λ n. 0 + n) found ≡ found
    by None = refl
    by (Some n) = ap Some (omega arith)

-- in the first list, else in the second behind it
pub number_in_front :
    {A : Type 0} (test : A → Bool) (front back : List A) (n : ℕ)
    → number_of_first test front ≡ Some n
    → number_of_first test (front ++ back) ≡ Some n
number_in_front test [] back n is = absurd cc
number_in_front test (x ∷ front) back n is = by (test x) (number_of_first test front) (number_in_front test front back) is
  where
    by :
        (passes : Bool) (found : Option ℕ)
        → ((m : ℕ) → found ≡ Some m → number_of_first test (front ++ back) ≡ Some m)
        → cond passes (Some 0) (option_map suc found) ≡ Some n
        → cond passes (Some 0) (option_map suc (number_of_first test (front ++ back))) ≡ Some n
    by true found later is = is
    by false None later is = absurd cc
    by false (Some m) later is = ap (option_map suc) (later m refl) ∙ is

pub number_in_back :
    {A : Type 0} (test : A → Bool) (front back : List A)
    → number_of_first test front ≡ None
    → number_of_first test (front ++ back)
    ≡ option_map (λ n. length front + n) (number_of_first test back)
number_in_back test [] back none = by (number_of_first test back)
  where
    by : (found : Option ℕ) → found ≡ option_map (λ n. 0 + n) found
    by None = refl
    by (Some n) = ap Some (omega arith)
number_in_back test (x ∷ front) back none = by (test x) (number_of_first test front) (number_in_back test front back) none
  where
    more : (found : Option ℕ) → option_map suc (option_map (λ n. length front + n) found) ≡ option_map (λ n. suc (length front) + n) found
    more None = refl
    more (Some n) = ap Some (omega arith)

    by :
        (passes : Bool) (found : Option ℕ)
        → (found ≡ None → number_of_first test (front ++ back) ≡ option_map (λ n. length front + n) (number_of_first test back))
        → cond passes (Some 0) (option_map suc found) ≡ None
        → cond passes (Some 0) (option_map suc (number_of_first test (front ++ back)))
        ≡ option_map (λ n. suc (length front) + n) (number_of_first test back)
    by true found later is = absurd cc
    by false None later is = ap (option_map suc) (later refl) ∙ more (number_of_first test back)
    by false (Some m) later is = absurd cc
