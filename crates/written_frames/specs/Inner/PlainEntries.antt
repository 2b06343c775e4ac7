-- The plain entries of a stack, one after the other.
use Rattle.std.specs.Prelude.{◌≡◌, ◌++◌, ℕ, List, drop}
use Rattle.class_model.specs.declared.frame.VType.{VType}
use Rattle.flow_code.specs.FlatCode.{FlatCode}
use Rattle.making_code.specs.StateFrames.{entry_types_from}
use Rattle.virtual_state.specs.declared.slot.Slot.{Slot}

-- these are the plain ones before one
pub record HasEntries (flat : FlatCode) (types : List VType) (slots : List Slot) (entries : List VType) (place : ℕ) : Type 0 where
  pub all : entries ++ entry_types_from flat (drop place types) (drop place slots) ≡ entry_types_from flat types slots
