-- What descriptors a text of a pool is (JVM Specification SE 8, 4.3).
use Rattle.std.specs.Prelude.{◌≡◌, ◌↔◌, ℕ, List, slice_get, Option, Some, IsTrue}
use Rattle.class_model.specs.Pool.{Constants}
use Rattle.class_model.specs.PoolChecks.{utf8_at, IsFieldDescriptor, IsMethodDescriptor, ReturnsVoid}
use Rattle.pool_bytes.specs.declared.kinds.TextKind.{TextKind}

pub record IsKind (text : List ℕ) (kind : TextKind) : Type 0 where
  pub field : IsTrue kind.is_field ↔ IsFieldDescriptor text
  pub method : IsTrue kind.is_method ↔ IsMethodDescriptor text
  pub void : IsTrue kind.is_void ↔ (IsMethodDescriptor text → ReturnsVoid text)

-- that of the text at an index, if one is there
pub record IsKindAt (pool : Constants) (index : ℕ) (kind : TextKind) : Type 0 where
  pub is : (text : List ℕ) → Some text ≡ utf8_at pool index → IsKind text kind

-- each entry of a table, as far as it is filled, is the kind of the text at its index
abbrev IfFilled : (TextKind → Type 0) → Option (Option TextKind) → Type 0
IfFilled Holds (Some (Some kind)) = Holds kind
IfFilled Holds other = Unit {0}

abbrev pub AreKinds : Constants → List (Option TextKind) → Type 0
AreKinds pool kinds = (index : ℕ) → IfFilled (IsKindAt pool index) (slice_get kinds index)
