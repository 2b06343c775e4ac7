-- Lists of objects that grow at their end, and in which one object changes.
use Rattle.std.proofs.Common.{◌≡◌, ℕ, zero, suc, List, [], ◌∷◌, ◌++◌, length, slice_get, slice_set, Some, refl, ap, arith}
use Rattle.std.proofs.lemmas.Option.{none-some, slice_get_within}

pub get_old : {A : Type 0} (xs : List A) (y : A) (at : ℕ) (x : A) → slice_get xs at ≡ Some x → slice_get (xs ++ y ∷ []) at ≡ Some x
get_old [] y at x is = absurd (none-some x is)
get_old (first ∷ xs) y zero x is = is
get_old (first ∷ xs) y (suc at) x is = get_old xs y at x is

pub get_new : {A : Type 0} (xs : List A) (y : A) → slice_get (xs ++ y ∷ []) (length xs) ≡ Some y
get_new [] y = refl
get_new (first ∷ xs) y = get_new xs y

-- what stands there stood there before, or is the new one
pub get_before : {A : Type 0} (xs : List A) (y : A) (at : ℕ) (x : A) → (at ≡ length xs → ⊥) → slice_get (xs ++ y ∷ []) at ≡ Some x
    → slice_get xs at ≡ Some x
get_before [] y zero x differ is = absurd (differ refl)
get_before [] y (suc at) x differ is = absurd (none-some x is)
get_before (first ∷ xs) y zero x differ is = is
get_before (first ∷ xs) y (suc at) x differ is = get_before xs y at x (λ same. differ (ap suc same)) is

pub none_at_end : {A : Type 0} (xs : List A) (x : A) → slice_get xs (length xs) ≡ Some x → ⊥
none_at_end xs x is = let low = slice_get_within xs (length xs) x is in absurd (omega (arith, low))

pub set_here : {A : Type 0} (xs : List A) (at : ℕ) (x y : A) → slice_get xs at ≡ Some x → slice_get (slice_set xs at y) at ≡ Some y
set_here [] at x y is = absurd (none-some x is)
set_here (first ∷ xs) zero x y is = refl
set_here (first ∷ xs) (suc at) x y is = set_here xs at x y is

pub set_other : {A : Type 0} (xs : List A) (at other : ℕ) (y : A) → (at ≡ other → ⊥)
    → slice_get (slice_set xs at y) other ≡ slice_get xs other
set_other [] at other y differ = refl
set_other (first ∷ xs) zero zero y differ = absurd (differ refl)
set_other (first ∷ xs) zero (suc other) y differ = refl
set_other (first ∷ xs) (suc at) zero y differ = refl
set_other (first ∷ xs) (suc at) (suc other) y differ = set_other xs at other y (λ same. differ (ap suc same))
