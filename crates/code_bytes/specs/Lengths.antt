-- What the length of a written instruction depends on: not on its targets, but for a goto that needs goto_w, and on its offset
-- alone by the pad bytes of a switch (JVM Specification SE 8, 6.5).
use Rattle.std.specs.Prelude.{ℕ, not, Bool, false, map}
use Rattle.class_model.specs.declared.instr.Pair.{Pair}
use Rattle.class_model.specs.declared.instr.Instr.{Instr}
use Rattle.class_model.specs.declared.instr.Instr.TheVariants.{If, If2, IfSame, IfNull, Goto, Table, Lookup}
use Rattle.code_bytes.specs.Forms.{is_near, offset_of}

-- the key alone
abbrev key_alone : Pair → Pair
key_alone pair = record pair { to = 0 }

-- the instruction with 0 for each target
abbrev pub without_targets : Instr → Instr
without_targets (If opcode to) = If opcode 0
without_targets (If2 opcode to) = If2 opcode 0
without_targets (IfSame opcode to) = IfSame opcode 0
without_targets (IfNull opcode to) = IfNull opcode 0
without_targets (Goto to) = Goto 0
without_targets (Table low other to) = Table low 0 (map (λ _. 0) to)
without_targets (Lookup other pairs) = Lookup 0 (map key_alone pairs)
without_targets instr = instr

-- a goto whose target is further than 16 bits reach
abbrev pub is_far : ℕ → Instr → Bool
is_far at (Goto to) = not (is_near (offset_of at to))
is_far at instr = false
