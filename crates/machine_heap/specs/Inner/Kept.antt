-- The constants that have references, as a map's entries.
use Rattle.std.specs.Prelude.{ℕ, ◌<◌, List, map}
use Rattle.std.specs.List.{AllByRecursion}
use Rattle.machine_values.specs.Heaps.{Kept}
use Rattle.machine_values.specs.declared.object.Constant.{Constant}

abbrev pub kept_of : List (Constant × ℕ) → List Kept
kept_of entries = map (λ entry. record { constant = entry.0; reference = entry.1 }) entries

abbrev pub numbers_of : List (Constant × ℕ) → List ℕ
numbers_of entries = map (λ entry. entry.1) entries

-- their references are below a number
abbrev pub AreBelow : ℕ → List Kept → Type 0
AreBelow bound kept = AllByRecursion (λ one. one.reference < bound) kept
