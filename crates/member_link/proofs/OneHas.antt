-- Lists of which one item has a property, in a loop that looks for it.
use Rattle.std.proofs.lemmas.List.Elements.{All-get_or, All-from_recursion}
use Rattle.std.proofs.Common.{◌⊎◌, ◌+◌, ◌<◌, ◌≤◌, ℕ, List, [], ◌∷◌, length, get_or, drop, subst, inl, inr}
use Rattle.std.specs.List.{AllByRecursion}
use Rattle.std.proofs.lemmas.List.{drop_more, drop_all}

abbrev pub OneHas : {X : Type 0} → (X → Type 0) → List X → Type 0
OneHas P [] = ⊥
OneHas P (x ∷ xs) = P x ⊎ OneHas P xs

pub one_left : {X : Type 0} (P : X → Type 0) (xs : List X) (i : ℕ) (d : X) → i < length xs → ¬ P (get_or xs i d) → OneHas P (drop i xs) → OneHas P (drop (i + 1) xs)
one_left P xs i d within not one = elim (subst (OneHas P) (drop_more xs i d within) one) [ inl here ↦ absurd (not here) | inr there ↦ there ]

pub none_left : {X : Type 0} (P : X → Type 0) (xs : List X) (i : ℕ) → length xs ≤ i → ¬ OneHas P (drop i xs)
none_left P xs i past one = subst (OneHas P) (drop_all i xs past) one

pub each_at : {X : Type 0} (P : X → Type 0) (xs : List X) → AllByRecursion P xs → (i : ℕ) (d : X) → i < length xs → P (get_or xs i d)
each_at P xs all i d within = All-get_or P xs i d within (All-from_recursion P xs all)
