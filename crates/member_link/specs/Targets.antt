-- Instructions that go elsewhere: the same but for their targets.
use Rattle.std.specs.Prelude.{ℕ, map}
use Rattle.class_model.specs.declared.instr.Instr.{Instr}
use Rattle.class_model.specs.declared.instr.Instr.TheVariants.{If, If2, IfSame, IfNull, Goto, Table, Lookup}
use Rattle.class_model.specs.declared.instr.Pair.{Pair}
use Rattle.code_bytes.specs.Encoding.{FitsForm}

-- the key, and the target that a map makes of its target
abbrev pub pair_to : (ℕ → ℕ) → Pair → Pair
pair_to place pair = record { key = pair.key; to = place pair.to }

-- the instruction whose targets are those that a map makes of its targets
abbrev pub with_targets : (ℕ → ℕ) → Instr → Instr
with_targets place (If opcode to) = If opcode (place to)
with_targets place (If2 opcode to) = If2 opcode (place to)
with_targets place (IfSame opcode to) = IfSame opcode (place to)
with_targets place (IfNull opcode to) = IfNull opcode (place to)
with_targets place (Goto to) = Goto (place to)
with_targets place (Table low other to) = Table low (place other) (map place to)
with_targets place (Lookup other pairs) = Lookup (place other) (map (pair_to place) pairs)
with_targets place instr = instr

-- its opcode, count, code and numbers are of its form: it would have a spelling if it stood where it jumps to
abbrev pub HasForm : Instr → Type 0
HasForm instr = FitsForm 0 (with_targets (λ _. 0) instr)
