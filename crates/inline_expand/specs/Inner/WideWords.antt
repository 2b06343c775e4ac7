-- Words of counts that are told up to a greatest.
use Rattle.std.specs.Prelude.{min, ℕ}

-- a count, up to the most that eight bytes count
abbrev pub counted : ℕ → ℕ
counted count = min count 18446744073709551615
