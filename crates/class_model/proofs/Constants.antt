-- What an index of a pool names, by the pool's entries from index 1 on.
use Rattle.std.proofs.Common.{◌≡◌, ℕ, ◌+◌, ◌<◌, ◌≤◌, ◌∷◌, length, get_or, Option, None, refl, add-one}
use Rattle.std.proofs.lemmas.Option.{slice_get_read, slice_get_past}
use Rattle.class_model.specs.Pool.{Constants, constant_at}
use Rattle.class_model.specs.declared.pool.Const.{Const}

pub entry_is_constant : (pool entries : Constants) (index at : ℕ) (entry : Option Const) → None ∷ entries ≡ pool → index ≡ at + 1 → at < length entries → entry ≡ get_or entries at entry → entry ≡ constant_at pool index
entry_is_constant pool entries index at entry view next in_range is =
    rw (← view, next, add-one, slice_get_read entries (length entries) at entry refl in_range is) refl

pub nothing_past : (pool entries : Constants) (index at : ℕ) → None ∷ entries ≡ pool → index ≡ at + 1 → length entries ≤ at → None ≡ constant_at pool index
nothing_past pool entries index at view next past = rw (← view, next, add-one, slice_get_past entries at past) refl
