-- What is asked of each type of a list, and of what a text spells.
use Rattle.std.proofs.Common.{◌≡◌, ◌↔◌, ℕ, List, drop, subst}
use Rattle.std.specs.List.{AllByRecursion}

-- The rest of a list is left to be asked: what holds of each there holds of all.
pub record IsLeft {X : Type 0} (Asked : X → Type 0) (xs : List X) (i : ℕ) : Type 0 where
  pub all : AllByRecursion Asked (drop i xs) → AllByRecursion Asked xs

-- what is asked of the one thing that a text spells
pub of_spelled : {X : Type 0} (Spells : List ℕ → X → Type 0) (Asked : X → Type 0) (text : List ℕ) (x : X) → ((bytes : List ℕ) (one other : X) → Spells bytes one → Spells bytes other → one ≡ other) → Spells text x → Asked x ↔ ((y : X) → Spells text y → Asked y)
of_spelled Spells Asked text x once spelled = (λ here y also. subst Asked (once text x y spelled also) here, λ all. all x spelled)
