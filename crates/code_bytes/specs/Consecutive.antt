-- Instructions that stand one after the other (JVM Specification SE 8, 4.7.3).
use Rattle.std.specs.Prelude.{◌≡◌, ◌+◌, ◌<◌, ℕ, List, [], ◌∷◌}
use Rattle.class_model.specs.declared.instr.Placed.{Placed}

-- they fill a code from one offset to another, each at least a byte of it
abbrev pub AreConsecutive : ℕ → List Placed → ℕ → Type 0
AreConsecutive from [] to = from ≡ to
AreConsecutive from (placed ∷ others) to =
    (placed.at ≡ from) × (0 < placed.len) × AreConsecutive (placed.at + placed.len) others to
