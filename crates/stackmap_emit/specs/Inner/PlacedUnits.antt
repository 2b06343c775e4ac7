-- Local units that get numbers in place of numbers, one after the other.
use Rattle.std.specs.Prelude.{◌≡◌, ◌++◌, ℕ, List, drop, length, map, slice_index_or, take, Option, Some, None}
use Rattle.class_model.specs.declared.frame.VType.{VType}
use Rattle.class_model.specs.declared.frame.VType.TheVariants.{Uninit}
use Rattle.stackmap_emit.specs.PlacedFrames.{type_at}

-- the number at an index, or another one where there is none
abbrev pub number_by : List ℕ → ℕ → ℕ → ℕ
number_by numbers other index = slice_index_or numbers index other

-- a type, or the uninitialised object that a number names
abbrev pub numbered : (ℕ → ℕ) → Option ℕ → VType → VType
numbered start None type = type
numbered start (Some number) type = Uninit (start number)

-- those before one have them, the others are as they were
pub record ArePlacedBefore (start : ℕ → ℕ) (units : List VType) (at : ℕ) (placed : List VType) : Type 0 where
  pub many : length placed ≡ length units
  pub done : take at placed ++ map (type_at start) (drop at units) ≡ map (type_at start) units
  pub left : drop at placed ≡ drop at units
