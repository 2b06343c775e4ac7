-- Counts and elements of arrays of arrays.
use Rattle.std.specs.Prelude.{◌≡◌, ◌≤◌, ◌<◌, ◌+◌, ◌*◌, ◌^◌, ℕ, Bool, true, false, List, [], ◌∷◌, ◌++◌, replicate}
use Rattle.std.specs.List.{AllByRecursion}
use Rattle.class_tree.specs.Headers.{Name}
use Rattle.machine_values.specs.declared.value.Value.{Value}
use Rattle.machine_values.specs.Heaps.{Heap}
use Rattle.machine_values.specs.Values.{blank_value, component_text}
use Rattle.member_link.specs.Machine.ArraySteps.{Counts, MadeElements, all_counts, arrays_made, is_too_long, made_times, most_elements, negative_count, nested, no_counts}
use Rattle.member_link.specs.Machine.Bounds.{MOST_DIMENSIONS}
use Rattle.machine_step.specs.declared.nested_arrays.Counts.{Counts as Read}
use Rattle.machine_step.specs.declared.nested_arrays.Counts.TheVariants as counts

-- ---- counts

-- counts of ints
abbrev pub AllShort : List ℕ → Type 0
AllShort counts = AllByRecursion (λ count. count < 2 ^ 31) counts

abbrev pub counts_read : Read → Counts
counts_read (counts.All found) = all_counts found.items
counts_read counts.Negative = negative_count
counts_read counts.NotInts = no_counts

abbrev pub AreShort : Read → Type 0
AreShort (counts.All found) = AllShort found.items
AreShort other = Unit {0}

-- counts that were found, and whether there was a negative one, in front of those that are left
abbrev pub counts_before : List ℕ → Bool → Counts → Counts
counts_before found false (all_counts left) = all_counts (found ++ left)
counts_before found true (all_counts left) = negative_count
counts_before found is_negative negative_count = negative_count
counts_before found is_negative no_counts = no_counts

-- arrays of these counts are not too long, and so many are made
pub record IsMade (counts : List ℕ) (made : ℕ) : Type 0 where
  pub fits : is_too_long 1 counts ≡ false
  pub same : arrays_made counts ≡ made
  pub few : made ≤ most_elements * MOST_DIMENSIONS

-- as far as the counts that are left: so many arrays are made of the first ones, and their product is this
pub record IsMadeTo (counts : List ℕ) (made product at : ℕ) (left : List ℕ) : Type 0 where
  pub fits : is_too_long 1 counts ≡ is_too_long product left
  pub same : arrays_made counts ≡ made + product * arrays_made left
  pub short : product ≤ most_elements
  pub few : made ≤ most_elements * at

-- ---- elements

abbrev pub made_elements : Heap → List Value → MadeElements
made_elements heap values = record { heap = heap; values = values }

-- the elements of an array of so many, with the counts of the dimensions below it
abbrev pub elements_of : Name → ℕ → List ℕ → Heap → MadeElements
elements_of desc count [] heap =
    made_elements heap (replicate count (blank_value (component_text desc)))
elements_of desc count (next ∷ counts) heap =
    made_times (nested (component_text desc) next counts) count heap

-- elements that were made, and those that are made behind them
abbrev pub elements_before : List Value → MadeElements → MadeElements
elements_before values made = record made { values = values ++ made.values }
