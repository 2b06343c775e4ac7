-- Reading one instruction of a code, part by part.
use Rattle.std.specs.Prelude.{nat_lt, ℕ, List, length, take, drop, Result, Ok, Err, if◌then◌else◌}
use Rattle.std.specs.Int.{w32, from_be_bytes, cast_signed}
use Rattle.class_model.specs.Checks.{Fault, fault}
use Rattle.class_model.specs.Instructions.{target_of}
use Rattle.class_model.specs.declared.instr.Pair.{Pair}
use Rattle.class_model.specs.declared.fault.FileRule.TheVariants as rules

-- what is read before an end that the bytes may not reach
abbrev pub before : {X : Type 0} → ℕ → List ℕ → ℕ → X → Result X Fault
before at bytes end x = if nat_lt (length bytes) end then Err (fault at rules.Operand) else Ok x

-- the target that a word of a switch at an offset is
abbrev pub target_in : ℕ → List ℕ → ℕ
target_in at word = target_of at (cast_signed w32 (from_be_bytes w32 word))

-- the pair that eight bytes are
abbrev pub pair_in : ℕ → List ℕ → Pair
pair_in at part = record {
  key = cast_signed w32 (from_be_bytes w32 (take 4 part));
  to = target_in at (drop 4 part);
}
