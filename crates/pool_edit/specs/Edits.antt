-- A constant pool that grows at its end (JVM Specification SE 8, 4.4). It is this project's profile.
use Rattle.std.specs.Prelude.{◌≡◌, ◌≢◌, ◌⊎◌, ℕ, ◌+◌, ◌<◌, ◌≤◌, List, [], ◌∷◌, ◌++◌, length, slice_get, Some, None}
use Rattle.std.specs.List.{flat_map}
use Rattle.class_model.specs.Pool.{Constants, entries_of}
use Rattle.class_model.specs.declared.pool.Const.{Const}

-- The pool that is edited, the greatest count that it may have, and the constants that were appended to it and not taken
-- away, in their order.
pub record Edit : Type 0 where
  pub base : Constants
  pub limit : ℕ
  pub added : List Const

-- the pool as it is: the old one is a prefix
abbrev pub grown : Edit → Constants
grown edit = edit.base ++ flat_map entries_of edit.added

-- constants one after the other from an index on, each with its index
abbrev pub numbered : ℕ → List Const → List (Const × ℕ)
numbered index [] = []
numbered index (constant ∷ constants) =
    (constant, index) ∷ numbered (index + length (entries_of constant)) constants

-- those that were appended, with their indices
abbrev pub added_entries : Edit → List (Const × ℕ)
added_entries edit = numbered (length edit.base) edit.added

-- ---- where a constant stands

-- no entry equals the constant
abbrev pub IsAbsent : Constants → Const → Type 0
IsAbsent pool constant = (index : ℕ) → slice_get pool index ≢ Some (Some constant)

-- the smallest index of an entry that equals the constant
pub record IsFirstIndex (pool : Constants) (constant : Const) (index : ℕ) : Type 0 where
  pub there : slice_get pool index ≡ Some (Some constant)
  pub least : (other : ℕ) → other < index → slice_get pool other ≢ Some (Some constant)

-- none of these equals an entry of the pool or an earlier one
abbrev pub AreNew : Constants → List Const → Type 0
AreNew pool [] = Unit {0}
AreNew pool (constant ∷ constants) =
    IsAbsent pool constant × AreNew (pool ++ entries_of constant) constants

-- ---- changes

-- the edit with a constant appended
abbrev pub with_constant : Edit → Const → Edit
with_constant edit constant = record edit { added = edit.added ++ constant ∷ [] }

-- the count that it has then
abbrev pub count_with : Edit → Const → ℕ
count_with edit constant = length (grown edit) + length (entries_of constant)

-- What adding a constant leaves: all as it was where an entry equals it, else the constant behind the others, within the limit.
pub record Appends (old : Edit) (constant : Const) (new : Edit) : Type 0 where
  pub absent : IsAbsent (grown old) constant
  pub fits : count_with old constant ≤ old.limit
  pub appended : new ≡ with_constant old constant

pub record Finds (old : Edit) (constant : Const) (new : Edit) : Type 0 where
  pub index : ℕ
  pub there : slice_get (grown old) index ≡ Some (Some constant)
  pub same : new ≡ old

abbrev pub Adds : Edit → Const → Edit → Type 0
Adds old constant new = Finds old constant new ⊎ Appends old constant new

-- appending a constant would take the count past the limit, and no entry equals it
pub record IsPast (edit : Edit) (constant : Const) : Type 0 where
  pub absent : IsAbsent (grown edit) constant
  pub past : edit.limit < count_with edit constant

-- a count that the edit may go back to: at least that of the old pool, at most the present one, and not the second index of
-- a long or double
pub record IsBoundary (edit : Edit) (count : ℕ) : Type 0 where
  pub least : length edit.base ≤ count
  pub most : count ≤ length (grown edit)
  pub no_second : slice_get (grown edit) count ≢ Some None

-- The edit as it was at a count: the constants from that index on are taken away.
pub record TakesBack (old : Edit) (count : ℕ) (new : Edit) : Type 0 where
  pub base : new.base ≡ old.base
  pub limit : new.limit ≡ old.limit
  pub counts : length (grown new) ≡ count
  pub taken : List Const
  pub added : old.added ≡ new.added ++ taken

-- An edit to which constants may have been appended since.
pub record Continues (old new : Edit) : Type 0 where
  pub base : new.base ≡ old.base
  pub limit : new.limit ≡ old.limit
  pub more : List Const
  pub added : new.added ≡ old.added ++ more
