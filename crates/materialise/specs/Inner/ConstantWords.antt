-- Constants by what they mean, in a pool and in whatever it grows to.
use Rattle.std.specs.Prelude.{◌≡◌, ◌++◌, ℕ, List}
use Rattle.class_model.specs.Names.{init}
use Rattle.class_model.specs.Pool.{Constants}
use Rattle.class_model.specs.declared.pool.Const.{Const}
use Rattle.class_tree.specs.Headers.{Name}
use Rattle.making_code.specs.Constants.{Need, class_needs, constant_of, constructor_needs, needs_class, needs_member, of_method}
use Rattle.materialise.specs.Indices.{IsIndex}
use Rattle.pool_edit.specs.Edits.{Edit, grown}

-- a constant is what is needed
pub record Means (edit : Edit) (need : Need) (constant : Const) : Type 0 where
  pub is : (more : Constants) → constant_of (grown edit ++ more) need ≡ constant

-- what the code that makes an object needs, by its class and the descriptor of the field constructor
abbrev pub made_needs : Name → List ℕ → List Need
made_needs class desc = class_needs class ++ constructor_needs class desc

-- the indices of the class and of the field constructor
pub record AreIndices (edit : Edit) (name : Name) (desc : List ℕ) (class constructor : ℕ) : Type 0 where
  pub class_is : IsIndex edit (needs_class name) class
  pub constructor_is : IsIndex edit (needs_member of_method name init desc) constructor
