-- The local units that may have other types behind an instruction than before it.
use Rattle.std.specs.Prelude.{◌≡◌, ◌⊎◌, ◌<◌, ◌≤◌, ℕ, List, length, slice_get}
use Rattle.class_model.specs.declared.frame.VType.{VType}
use Rattle.type_rules.specs.declared.keeping.LocalChanges.{LocalChanges}
use Rattle.type_rules.specs.declared.keeping.LocalChanges.TheVariants.{Nowhere, Within, Anywhere}

-- as many units of the same types, but for those from one number up to before another
pub record AreSameBut (from end : ℕ) (before after : List VType) : Type 0 where
  pub as_many : length after ≡ length before
  pub others : (unit : ℕ) → (unit < from) ⊎ (end ≤ unit) → slice_get after unit ≡ slice_get before unit

-- the units behind an instruction, where these may change
abbrev pub AreBehind : LocalChanges → List VType → List VType → Type 0
AreBehind Nowhere before after = after ≡ before
AreBehind (Within from end) before after = AreSameBut from end before after
AreBehind Anywhere before after = Unit {0}
