-- A constant pool that stands in bytes (JVM Specification SE 8, 4.4).
use Rattle.std.specs.Prelude.{◌≡◌, ℕ, ◌+◌, List, drop, Ok}
use Rattle.class_model.specs.Checks.{Check, asked_of, Fault}
use Rattle.class_model.specs.Cutting.{Rest, pool_at}
use Rattle.class_model.specs.Pool.{Constants}
use Rattle.class_model.specs.PoolChecks.{entries_checks}

-- what is left of bytes from a place on
abbrev pub rest_at : List ℕ → ℕ → Rest
rest_at bytes at = record { at = at; bytes = drop at bytes }

-- What is asked of the pool at the front, in a class file of this major version: that it can be cut out, and then
-- of its constants, the first of which stands behind the count.
abbrev pub pool_checks : ℕ → Rest → List (Check Fault)
pool_checks major rest =
    asked_of (pool_at major rest) (λ cut. entries_checks major cut.0 (rest.at + 2) cut.0)

-- The pool of a class file of this major version stands at a place of bytes, up to an end.
abbrev pub Stands : ℕ → List ℕ → ℕ → Constants → ℕ → Type 0
Stands major bytes at pool end = pool_at major (rest_at bytes at) ≡ Ok (pool, rest_at bytes end)
