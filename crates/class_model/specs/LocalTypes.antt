-- The types of local units (JVM Specification SE 8, 2.6.1), as they are kept in parts.
use Rattle.std.specs.Prelude.{◌/◌, ◌%◌, ℕ, List, [], get_or, map}
use Rattle.std.specs.List.{range_with_len}
use Rattle.class_model.specs.declared.frame.VType.{VType}
use Rattle.class_model.specs.declared.frame.VType.TheVariants.{Top}

-- a unit among those that are listed from 0; Top where none is
abbrev pub type_in : List VType → ℕ → VType
type_in types at = get_or types at Top

-- a unit in parts of 256 each
abbrev pub unit_in : List (List VType) → ℕ → VType
unit_in parts at = type_in (get_or parts (at / 256) []) (at % 256)

-- the units below a number
abbrev pub units_below : ℕ → (ℕ → VType) → List VType
units_below n unit = map unit (range_with_len 0 n)
