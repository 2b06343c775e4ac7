-- Counts by number, of which zeros are not kept.
use Rattle.std.specs.Prelude.{◌≤◌, ◌<◌, ◌-◌, ℕ, suc, List, [], ◌∷◌, ◌++◌, replicate}
use Rattle.machine_values.specs.declared.count_list.HeldCount.{HeldCount}

-- the counts of the numbers from one on to a length
abbrev pub all_counts : ℕ → ℕ → List HeldCount → List ℕ
all_counts from len [] = replicate (len - from) 0
all_counts from len (first ∷ others) =
    replicate (first.number - from) 0 ++ first.count ∷ all_counts (suc first.number) len others

-- counts above zero of numbers below a length, each behind those of the numbers before it
abbrev pub AreHeld : ℕ → ℕ → List HeldCount → Type 0
AreHeld from len [] = Unit {0}
AreHeld from len (first ∷ others) =
    (from ≤ first.number)
    × ((first.number < len) × ((0 < first.count) × AreHeld (suc first.number) len others))
