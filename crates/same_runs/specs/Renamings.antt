-- Values of two runs that are the same but for the numbers of references.
use Rattle.std.specs.Prelude.{◌≡◌, ℕ, ℤ, List, [], ◌∷◌, Option, Some, None}
use Rattle.machine_values.specs.declared.object.Object.{Object}
use Rattle.machine_values.specs.declared.value.Value.{Value}
use Rattle.machine_values.specs.declared.value.Value.TheVariants as values

-- which reference of the second run stands for one of the first, if one does
abbrev pub Names : Type 0
Names = ℕ → Option ℕ

-- one reference stands for one
pub record IsRenaming (names : Names) : Type 0 where
  pub once : (one other reference : ℕ)
      → names one ≡ Some reference
      → names other ≡ Some reference
      → one ≡ other

-- each reference that has a name keeps it
pub record NamesMore (names more : Names) : Type 0 where
  pub keeps : (reference named : ℕ)
      → names reference ≡ Some named
      → more reference ≡ Some named

-- ---- values

pub data SameValue (names : Names) : Value → Value → Type 0 where
  same_int : {number : ℤ} → SameValue names (values.Int number) (values.Int number)
  same_long : {number : ℤ} → SameValue names (values.Long number) (values.Long number)
  same_float : {bits : ℕ} → SameValue names (values.Float bits) (values.Float bits)
  same_double : {bits : ℕ} → SameValue names (values.Double bits) (values.Double bits)
  same_null : SameValue names values.Null values.Null
  same_reference : {reference named : ℕ}
      → names reference ≡ Some named
      → SameValue names (values.Ref reference) (values.Ref named)

-- one by one
pub data SameValues (names : Names) : List Value → List Value → Type 0 where
  no_values : SameValues names [] []
  and_value : {one other : Value} {ones others : List Value}
      → SameValue names one other
      → SameValues names ones others
      → SameValues names (one ∷ ones) (other ∷ others)

-- a local unit with a value, or without one on both sides
pub data SameUnit (names : Names) : Option Value → Option Value → Type 0 where
  no_value : SameUnit names None None
  has_value : {one other : Value} → SameValue names one other → SameUnit names (Some one) (Some other)

pub data SameUnits (names : Names) : List (Option Value) → List (Option Value) → Type 0 where
  no_units : SameUnits names [] []
  and_unit : {one other : Option Value} {ones others : List (Option Value)}
      → SameUnit names one other
      → SameUnits names ones others
      → SameUnits names (one ∷ ones) (other ∷ others)

-- a reference that may be there, as the one that a frame holds is
pub data SameHeld (names : Names) : Option ℕ → Option ℕ → Type 0 where
  none_held : SameHeld names None None
  one_held : {reference named : ℕ}
      → names reference ≡ Some named
      → SameHeld names (Some reference) (Some named)

-- references in order, as the known ones are
pub data SameReferences (names : Names) : List ℕ → List ℕ → Type 0 where
  no_references : SameReferences names [] []
  and_reference : {reference named : ℕ} {ones others : List ℕ}
      → names reference ≡ Some named
      → SameReferences names ones others
      → SameReferences names (reference ∷ ones) (named ∷ others)

-- ---- objects

-- of one shape, with the same values, and entered as often
pub record SameObject (names : Names) (one other : Object) : Type 0 where
  pub shape : other.shape ≡ one.shape
  pub values : SameValues names one.values other.values
  pub monitor : other.monitor ≡ one.monitor
