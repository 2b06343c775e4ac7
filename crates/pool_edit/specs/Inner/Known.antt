-- A map from the constants of a pool to their smallest indices.
use Rattle.std.specs.Prelude.{ℕ, Option, Some, None}
use Rattle.std.specs.HashMap.{HashMap, get}
use Rattle.std.specs.declared.hash.FoldHasher.{FoldHasher}
use Rattle.std.specs.declared.hash.BuildHasherDefault.{BuildHasherDefault}
use Rattle.class_model.specs.Pool.{Constants}
use Rattle.class_model.specs.contracts.pool.ConstPartialEq.TheImpl.{ghosts as comparison}
use Rattle.class_model.specs.declared.pool.Const.{Const}
use Rattle.pool_edit.specs.Edits.{IsAbsent, IsFirstIndex}

abbrev pub Indices : Type 0
Indices = HashMap Const ℕ (BuildHasherDefault FoldHasher)

-- what a look-up of a constant says
abbrev pub Says : Constants → Const → Option ℕ → Type 0
Says pool constant None = IsAbsent pool constant
Says pool constant (Some index) = IsFirstIndex pool constant index

-- it says of each constant where it stands first
pub record KnowsFirst (pool : Constants) (known : Indices) : Type 0 where
  pub says : (constant : Const) → Says pool constant (get comparison.eq known constant)
