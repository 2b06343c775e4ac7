-- The first number of a list that is this one, by two definitions.
use Rattle.std.proofs.Common.{◌≡◌, IsTrue, ℕ, zero, suc, ◌+◌, ◌==◌, ◌||◌, Bool, true, false, List, [], ◌∷◌, length, nat_eq, nat_lt, Option, Some, None, option_map, slice_get, not, cond, if◌then◌else◌, refl, sym, ap, subst, arith, eqb-true, eq-eqb}
use Rattle.std.proofs.lemmas.Grind.{common_steps}
use Rattle.std.proofs.lemmas.Map.Keys.{IsDistinct-head, IsDistinct-tail}
use Rattle.std.proofs.lemmas.Option.{same_Some}
use Rattle.std.specs.List.{list_any, position, position_or_len, IsDistinct, AllByRecursion}
use Rattle.member_link.specs.Machine.Showing.{known_number}

pub same-bool : (one other : Bool) → (IsTrue one → IsTrue other) → (IsTrue other → IsTrue one) → one ≡ other
same-bool true true to from = refl
same-bool true false to from = sym (to refl)
same-bool false true to from = from refl
same-bool false false to from = refl

pub eq-sym : (m n : ℕ) → nat_eq m n ≡ nat_eq n m
eq-sym m n = same-bool _ _ (λ is. eq-eqb n m (sym (eqb-true m n is))) (λ is. eq-eqb m n (sym (eqb-true n m is)))

pub any-sym : (x : ℕ) (xs : List ℕ) → list_any (λ other. other == x) xs ≡ list_any (nat_eq x) xs
any-sym x [] = refl
any-sym x (y ∷ xs) = rw (eq-sym y x, any-sym x xs) refl

first-step : (here : Bool) (k n : ℕ) → (if here then Some zero else option_map suc (cond (nat_lt k n) (Some k) None))
    ≡ cond (nat_lt (cond (not here) (1 + k) zero) (suc n)) (Some (cond (not here) (1 + k) zero)) None
first-step here k n = grind (arith, common_steps)

-- the number of a known reference is its place
pub known-position : (x : ℕ) (xs : List ℕ) → known_number xs x ≡ position (nat_eq x) xs
known-position x [] = refl
known-position x (y ∷ xs) = rw (eq-sym y x, known-position x xs) (first-step (nat_eq x y) (position_or_len (nat_eq x) xs) (length xs))

-- what has no number is not there
pub unknown-any : (x : ℕ) (xs : List ℕ) → known_number xs x ≡ None → list_any (nat_eq x) xs ≡ false
unknown-any x [] none = refl
unknown-any x (y ∷ xs) none = by (nat_eq x y) (known_number xs x) (rw (eq-sym y x) at none) (unknown-any x xs)
  where
    by : (here : Bool) (there : Option ℕ) → (if here then Some zero else option_map suc there) ≡ None → (there ≡ None → list_any (nat_eq x) xs ≡ false) → (here || list_any (nat_eq x) xs) ≡ false
    by true there is lost = absurd cc
    by false None is lost = lost refl
    by false (Some k) is lost = absurd cc

-- the number of a known reference is its place
pub known-there : (x : ℕ) (xs : List ℕ) (number : ℕ) → known_number xs x ≡ Some number → slice_get xs number ≡ Some x
known-there x [] number is = absurd cc
known-there x (y ∷ xs) number is = by (known-there x xs) (y == x) refl (known_number xs x) refl is
  where
    by : ((n : ℕ) → known_number xs x ≡ Some n → slice_get xs n ≡ Some x) → (here : Bool) → (y == x) ≡ here → (there : Option ℕ) → known_number xs x ≡ there → (if here then Some zero else option_map suc there) ≡ Some number → slice_get (y ∷ xs) number ≡ Some x
    by rest true same there found is' = subst (λ (n : ℕ). slice_get (y ∷ xs) n ≡ Some x) (same_Some zero number is') (ap (λ (n : ℕ). Some n) (eqb-true y x same))
    by rest false other None found is' = absurd cc
    by rest false other (Some n) found is' = subst (λ (m : ℕ). slice_get (y ∷ xs) m ≡ Some x) (same_Some (suc n) number is') (rest n found)

-- a reference is known once
pub known-once : (x : ℕ) (xs : List ℕ) (number : ℕ) → IsDistinct nat_eq xs → slice_get xs number ≡ Some x → known_number xs x ≡ Some number
known-once x [] number distinct is = absurd cc
known-once x (y ∷ xs) zero distinct is = rw (eq-eqb y x (same_Some y x is)) refl
known-once x (y ∷ xs) (suc number) distinct is =
    let apart : nat_eq y x ≡ false = All-at_index (λ (z : ℕ). nat_eq y z ≡ false) xs (IsDistinct-head nat_eq y xs distinct) number x is in
    rw (apart, known-once x xs number (IsDistinct-tail nat_eq y xs distinct) is) refl
  where
    All-at_index : (P : ℕ → Type 0) (zs : List ℕ) → AllByRecursion P zs → (k z : ℕ) → slice_get zs k ≡ Some z → P z
    All-at_index P [] all k z is' = absurd cc
    All-at_index P (first ∷ zs) all zero z is' = subst P (same_Some first z is') all.0
    All-at_index P (first ∷ zs) all (suc k) z is' = All-at_index P zs all.1 k z is'
