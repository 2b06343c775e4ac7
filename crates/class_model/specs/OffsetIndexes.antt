-- The numbers of things by their offsets in a code: the first for an offset counts.
use Rattle.std.specs.Prelude.{◌≡◌, ◌==◌, ℕ, zero, suc, List, [], ◌∷◌, slice_index_or, Option, Some, None, option_map, if◌then◌else◌}

-- the number of the first of these offsets that is this one
abbrev pub first_at : List ℕ → ℕ → Option ℕ
first_at [] at = None
first_at (offset ∷ offsets) at =
    if offset == at then Some 0 else option_map suc (first_at offsets at)

-- what a table says of an offset: a number counted from 1, or 0 for none
abbrev pub number_in : List ℕ → ℕ → Option ℕ
number_in numbers at = of_entry (slice_index_or numbers at 0) where
  of_entry : ℕ → Option ℕ
  of_entry zero = None
  of_entry (suc number) = Some number

-- it says of each offset which is the first
abbrev pub IsIndexOf : List ℕ → List ℕ → Type 0
IsIndexOf offsets numbers = (at : ℕ) → number_in numbers at ≡ first_at offsets at
