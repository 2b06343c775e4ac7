-- A loop that asks whether each item of a list passes.
use Rattle.std.proofs.Common.{◌≡◌, ◌+◌, ◌<◌, ◌≤◌, ℕ, zero, suc, List, [], ◌∷◌, length, drop, get_or, sym, subst, arith}
use Rattle.std.specs.List.{AllByRecursion}
use Rattle.std.proofs.lemmas.List.{drop_more, drop_all}

-- where what is left passes, all does
pub record Left {X : Type 0} (P : X → Type 0) (xs : List X) (i : ℕ) : Type 0 where
  pub all : AllByRecursion P (drop i xs) → AllByRecursion P xs

module _ {X : Type 0} (P : X → Type 0) (xs : List X) where
  pub left_first : Left P xs 0
  left_first = record { all = λ all. all }

  pub left_at : (i : ℕ) (d : X) → i < length xs → P (get_or xs i d) → Left P xs i → Left P xs (i + 1)
  left_at i d within passes left = record {
    all = λ rest. left.all (subst (AllByRecursion P) (sym (drop_more xs i d within)) (passes, rest));
  }

  pub left_more : (i : ℕ) (x : X) → i < length xs → x ≡ get_or xs i x → P x → Left P xs i → Left P xs (i + 1)
  left_more i x within is passes left = left_at i x within (subst P is passes) left

  pub left_none : (i : ℕ) → length xs ≤ i → Left P xs i → AllByRecursion P xs
  left_none i end left = left.all (subst (AllByRecursion P) (sym (drop_all i xs end)) tt)

  pub passes_at : (i : ℕ) (d : X) → i < length xs → AllByRecursion P xs → P (get_or xs i d)
  passes_at i d within all = at i xs within all
    where
      at : (i : ℕ) (xs : List X) → i < length xs → AllByRecursion P xs → P (get_or xs i d)
      at i [] within all = absurd (omega (arith, within))
      at zero (first ∷ xs) within all = all.0
      at (suc i) (first ∷ xs) within all = at i xs (omega (arith, within)) all.1

  pub item_passes : (i : ℕ) (x : X) → i < length xs → x ≡ get_or xs i x → AllByRecursion P xs → P x
  item_passes i x within is all = subst P (sym is) (passes_at i x within all)
