-- Pairs of a key and a target, by their bits.
use Rattle.std.proofs.Common.{◌≡◌, ℕ}
use Rattle.code_bytes.specs.Spellings.{pair_of}

pub pair_is : (at key to other_key other_to : ℕ) → key ≡ other_key → to ≡ other_to → pair_of at (key, to) ≡ pair_of at (other_key, other_to)
pair_is at key to other_key other_to is_key is_to = rw (is_key, is_to)
