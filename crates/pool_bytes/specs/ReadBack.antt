-- Written constants are read again.
use Rattle.std.specs.Prelude.{◌≡◌, ℕ, ◌+◌, List, ◌++◌, length, Ok}
use Rattle.class_model.specs.Cutting.{pool_at}
use Rattle.class_model.specs.Pool.{Constants}
use Rattle.class_model.specs.Spelling.{pool_bytes}

-- Wherever the bytes of the pool stand, and whatever follows, they are cut as this pool, in a class file of
-- a major version.
abbrev pub IsReadBackIn : ℕ → Constants → Type 0
IsReadBackIn major pool =
    (at : ℕ) (others : List ℕ)
    → pool_at major (record { at = at; bytes = pool_bytes pool ++ others })
    ≡ Ok (pool, record { at = at + length (pool_bytes pool); bytes = others })

-- the same of version 52, which has all tags
abbrev pub IsReadBack : Constants → Type 0
IsReadBack pool = IsReadBackIn 52 pool
