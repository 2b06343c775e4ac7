-- Tables that the standard gives by number, as those of opcodes, tags and kinds: a row says which numbers it is for.
use Rattle.std.specs.Prelude.{◌&&◌, nat_le, ℕ, List, [], ◌∷◌, Option, Some, None, if◌then◌else◌}

-- the numbers from low to high, and what each of them gives
pub record Row (X : Type 0) : Type 0 where
  pub low : ℕ
  pub high : ℕ
  pub gives : ℕ → X

-- a row of one number
abbrev pub one_row : {X : Type 0} → ℕ → X → Row X
one_row number x = record { low = number; high = number; gives = λ n. x }

-- a row of several
abbrev pub row : {X : Type 0} → ℕ → ℕ → (ℕ → X) → Row X
row low high gives = record { low = low; high = high; gives = gives }

-- what a number gives: that of the first row for it
abbrev pub given_in : {X : Type 0} → List (Row X) → ℕ → Option X
given_in [] number = None
given_in (r ∷ others) number =
    if nat_le r.low number && nat_le number r.high then Some (r.gives number)
    else given_in others number
