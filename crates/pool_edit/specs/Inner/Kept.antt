-- What an edit keeps besides its value.
use Rattle.std.specs.Prelude.{◌≡◌, ℕ, ◌-◌, ◌<◌, ◌≤◌, List, ◌++◌, length, slice_get, Some}
use Rattle.std.specs.List.{flat_map}
use Rattle.std.specs.Map.{keys_of}
use Rattle.class_model.specs.Pool.{Constants, IsPool, entries_of}
use Rattle.class_model.specs.declared.pool.Const.{Const}
use Rattle.pool_edit.specs.Edits.{AreNew, numbered}
use Rattle.pool_edit.specs.Inner.Known.{Indices, KnowsFirst}

-- The smallest indices of the old pool's constants, the appended ones with their indices, and the count.
pub record IsKept (base : Constants) (known : Indices) (entries : List (Const × ℕ)) (count : ℕ)
    : Type 0 where
  pub pool : IsPool base
  pub knows : KnowsFirst base known
  pub numbers : entries ≡ numbered (length base) (keys_of entries)
  pub new : AreNew base (keys_of entries)
  pub counts : count ≡ length (base ++ flat_map entries_of (keys_of entries))
  pub most : count ≤ 65535

-- the last of the first so many entries has an index below this one
abbrev pub EndsBelow : ℕ → ℕ → List (Const × ℕ) → Type 0
EndsBelow index kept entries =
    0 < kept → (entry : Const × ℕ) × (slice_get entries (kept - 1) ≡ Some entry) × (entry.1 < index)

-- those behind the first so many have indices from this one on
abbrev pub StartsFrom : ℕ → ℕ → List (Const × ℕ) → Type 0
StartsFrom index kept entries =
    (at : ℕ) (entry : Const × ℕ) → kept ≤ at → slice_get entries at ≡ Some entry → index ≤ entry.1
