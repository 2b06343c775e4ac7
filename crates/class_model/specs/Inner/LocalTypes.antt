-- Words for private functions, beside the definitions of the file of the same name in specs/.
use Rattle.std.specs.Prelude.{◌≡◌, ◌≢◌, ◌≤◌, ℕ, List}
use Rattle.class_model.specs.declared.frame.VType.{VType}
use Rattle.class_model.specs.declared.frame.VType.TheVariants.{Top}
use Rattle.class_model.specs.LocalTypes.{unit_in}

-- The units after one of them was given another type.
pub record IsPut (before after : ℕ → VType) (at : ℕ) (unit : VType) : Type 0 where
  pub here : after at ≡ unit
  pub others : (other : ℕ) → other ≢ at → after other ≡ before other

-- The units stay as they were.
pub record IsKept (before after : ℕ → VType) : Type 0 where
  pub each : (at : ℕ) → after at ≡ before at

-- All units from a number on are Top.
pub record IsTopFrom (from : ℕ) (unit : ℕ → VType) : Type 0 where
  pub each : (at : ℕ) → from ≤ at → unit at ≡ Top

-- What the fields of a list keep to.
pub record IsInParts (parts : List (List VType)) (len : ℕ) (filler : VType) : Type 0 where
  pub filler_is : filler ≡ Top
  pub behind : IsTopFrom len (unit_in parts)
