-- The units of the flat code, one after the other.
use Rattle.std.specs.Prelude.{◌≡◌, ◌++◌, ℕ, List, length, drop, take}
use Rattle.class_model.specs.declared.frame.VType.{VType}
use Rattle.flow_code.specs.FlatCode.{FlatCode}
use Rattle.making_code.specs.StateFrames.{local_types_from}
use Rattle.virtual_state.specs.declared.slot.Slot.{Slot}

-- the first so many are those of written code, the others those of the flat code
pub record AreChanged (flat : FlatCode) (types : List VType) (slots : List Slot) (at : ℕ)
    (locals : List VType) : Type 0 where
  pub many : length locals ≡ length types
  pub done : take at locals ++ local_types_from flat (drop at types) (drop at slots)
      ≡ local_types_from flat types slots
  pub left : drop at locals ≡ drop at types

-- they are the first so many of written code
pub record AreListed (flat : FlatCode) (types : List VType) (slots : List Slot) (at : ℕ)
    (locals : List VType) : Type 0 where
  pub many : length locals ≡ at
  pub done : locals ++ local_types_from flat (drop at types) (drop at slots)
      ≡ local_types_from flat types slots
