-- References whose monitors are entered.
use Rattle.std.specs.Prelude.{◌≡◌, ◌<◌, ℕ, List, true, nat_eq}
use Rattle.std.specs.List.{list_any}
use Rattle.machine_values.specs.Heaps.{Heap, monitor_count}

-- each reference whose monitor is entered is there
pub record AreHeld (heap : Heap) (numbers : List ℕ) : Type 0 where
  pub held : (reference : ℕ) → 0 < monitor_count heap reference → list_any (nat_eq reference) numbers ≡ true
