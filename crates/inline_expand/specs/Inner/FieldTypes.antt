-- Words of the types of fields by the texts of their descriptors.
use Rattle.std.specs.Prelude.{◌+◌, ◌≤◌, List, length, ℕ}
use Rattle.class_model.specs.PoolChecks.{IsFieldDescriptor}

-- a field descriptor that is short enough to stand in the descriptor of a method
pub record IsShortDescriptor (text : List ℕ) : Type 0 where
  pub is : IsFieldDescriptor text
  pub short : length text + 3 ≤ 65535
