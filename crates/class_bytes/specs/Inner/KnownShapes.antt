-- What is known of the descriptors among the texts of a pool (JVM Specification SE 8, 4.3.2 and 4.3.3).
use Rattle.std.specs.Prelude.{◌≡◌, ◌↔◌, ℕ, List, slice_get, Option, Some, IsTrue}
use Rattle.class_model.specs.Pool.{Constants}
use Rattle.class_model.specs.PoolChecks.{utf8_at, IsFieldDescriptor}
use Rattle.class_bytes.specs.Inner.Shapes.{IsShape}
use Rattle.class_bytes.specs.declared.known_shapes.KnownShape.{KnownShape}

-- that of the text at an index, if one is there
pub record IsShapeAt (pool : Constants) (index : ℕ) (known : KnownShape) : Type 0 where
  pub is : IsShape (utf8_at pool index) known.shape
  pub field : (text : List ℕ)
      → utf8_at pool index ≡ Some text
      → IsTrue known.is_field_type ↔ IsFieldDescriptor text

-- each entry of a table, as far as it is filled, is the shape of the text at its index
abbrev IfFilled : (KnownShape → Type 0) → Option (Option KnownShape) → Type 0
IfFilled Holds (Some (Some known)) = Holds known
IfFilled Holds other = Unit {0}

abbrev pub AreShapes : Constants → List (Option KnownShape) → Type 0
AreShapes pool shapes = (index : ℕ) → IfFilled (IsShapeAt pool index) (slice_get shapes index)
