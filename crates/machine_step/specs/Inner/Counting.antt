-- Monitor counts that are collected reference by reference.
use Rattle.std.specs.Prelude.{◌≡◌, ◌<◌, ℕ, List, true, nat_eq, slice_get, Some}
use Rattle.std.specs.List.{list_any}
use Rattle.std.specs.BTreeMap.{BTreeMap, get}
use Rattle.std.specs.Ordering.{nat_cmp}
use Rattle.machine_values.specs.declared.count_list.HeldCount.{HeldCount}
use Rattle.machine_values.specs.Heaps.{Heap, monitor_count}

-- the counts by the numbers of known references: those above zero, and all of references that were seen
pub record Collects (heap : Heap) (known seen : List ℕ) (counts : BTreeMap ℕ ℕ) : Type 0 where
  pub sound : (number count : ℕ)
      → get nat_cmp counts number ≡ Some count
      → (reference : ℕ) × (slice_get known number ≡ Some reference) × (count ≡ monitor_count heap reference) × (0 < count)
  pub complete : (number reference : ℕ)
      → slice_get known number ≡ Some reference
      → 0 < monitor_count heap reference
      → list_any (nat_eq reference) seen ≡ true
      → get nat_cmp counts number ≡ Some (monitor_count heap reference)

-- a count by its number
abbrev pub held_of : ℕ × ℕ → HeldCount
held_of entry = record { number = entry.0; count = entry.1 }
