-- The first place in a list where a test is passed.
use Rattle.std.proofs.Common.{◌≡◌, ◌+◌, ℕ, suc, Bool, true, false, cond, List, [], ◌∷◌, slice_get, Option, Some, None, IsSome, IfSome, is_some, option_map, option_and_then, refl, ap, subst, ◌∙◌, arith}
use Rattle.class_tree.specs.Order.{first_place}

-- the item at a place passes
pub record Passes {X : Type 0} (test : X → Bool) (xs : List X) (place : ℕ) : Type 0 where
  pub item : X
  pub there : slice_get xs place ≡ Some item
  pub passes : test item ≡ true

module _ {X : Type 0} (test : X → Bool) where
  passes_later :
      (x : X) (xs : List X) (place : ℕ) → Passes test xs place → Passes test (x ∷ xs) (place + 1)
  passes_later x xs place p = record { item = p.item; there = subst (λ (i : ℕ). slice_get (x ∷ xs) i ≡ Some p.item) {x = suc place} (omega arith) p.there; passes = p.passes }

  -- an item passes at the first place
  pub first_passes :
      (xs : List X) (place : ℕ) → first_place test xs ≡ Some place → Passes test xs place
  first_passes [] place e = absurd cc
  first_passes (x ∷ xs) place e = by (test x) refl (first_place test xs) (first_passes xs) e
    where
      by :
          (b : Bool)
          → test x ≡ b
          → (found : Option ℕ)
          → ((at : ℕ) → found ≡ Some at → Passes test xs at)
          → cond b (Some 0) (option_map (λ at. at + 1) found) ≡ Some place
          → Passes test (x ∷ xs) place
      by true t found more e = subst (Passes test (x ∷ xs)) {x = 0} (cc) (record { item = x; there = refl; passes = t })
      by false t None more e = absurd cc
      by false t (Some at) more e = subst (Passes test (x ∷ xs)) {x = at + 1} (cc) (passes_later x xs at (more at refl))

  -- an item is there
  pub first_there :
      (xs : List X) → IfSome (first_place test xs) (λ place. IsSome (slice_get xs place))
  first_there xs = by (first_place test xs) refl
    where
      by :
          (found : Option ℕ)
          → first_place test xs ≡ found
          → IfSome found (λ place. IsSome (slice_get xs place))
      by None none = tt
      by (Some place) is = ap is_some (first_passes xs place is).there

  -- A function that answers the first item that passes answers the one at the first place.
  module _ (first : List X → Option X) (nothing : first [] ≡ None) (onwards : (x : X) (xs : List X) → first (x ∷ xs) ≡ cond (test x) (Some x) (first xs)) where
    pub first_at : (xs : List X) → first xs ≡ option_and_then (slice_get xs) (first_place test xs)
    first_at [] = nothing
    first_at (x ∷ xs) = onwards x xs ∙ ap (cond (test x) (Some x)) (first_at xs) ∙ by (test x) (first_place test xs)
      where
        by :
            (b : Bool) (found : Option ℕ)
            → cond b (Some x) (option_and_then (slice_get xs) found)
            ≡ option_and_then (slice_get (x ∷ xs))
            (cond b (Some 0) (option_map (λ at. at + 1) found))
        by true found = refl
        by false None = refl
        by false (Some at) = ap (slice_get (x ∷ xs)) {x = suc at} (omega arith)
