-- What is noted of slots.
use Rattle.std.specs.Prelude.{◌≡◌, ℕ, Bool, true, false, List, map}
use Rattle.std.specs.List.{filter}
use Rattle.virtual_state.specs.Gaps.{true_from}
use Rattle.virtual_state.specs.States.{is_unusable}
use Rattle.virtual_state.specs.declared.slot.Slot.{Slot}
use Rattle.virtual_state.specs.declared.slot.Slot.TheVariants.{Plain, Virt, Unusable}

-- whether a slot holds a virtual object
abbrev pub holds_object : Slot → Bool
holds_object Plain = false
holds_object (Virt site) = true
holds_object Unusable = false

-- the slots that hold virtual objects, and the indices of those that are unusable
pub record AreNoted (slots held : List Slot) (gaps : List ℕ) : Type 0 where
  pub held_is : held ≡ filter holds_object slots
  pub gaps_is : gaps ≡ true_from 0 (map is_unusable slots)
