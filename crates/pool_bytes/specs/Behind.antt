-- What is left of bytes, as more of them is taken.
use Rattle.std.specs.Prelude.{◌≡◌, ℕ, ◌+◌, List, ◌++◌, length}
use Rattle.class_model.specs.Cutting.{Rest}

-- Some bytes, or none, were taken from the front.
pub record IsBehind (before after : Rest) : Type 0 where
  pub taken : List ℕ
  pub parts : before.bytes ≡ taken ++ after.bytes
  pub place : after.at ≡ before.at + length taken
