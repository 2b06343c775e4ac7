-- Conditional jumps and their opposites (JVM Specification SE 8, 6.5.if_cond, 6.5.if_icmp_cond, 6.5.if_acmp_cond, 6.5.ifnull).
use Rattle.std.specs.Prelude.{◌==◌, ℕ, Option, Some, None, if◌then◌else◌}
use Rattle.class_model.specs.declared.instr.Instr.{Instr}
use Rattle.class_model.specs.declared.instr.Instr.TheVariants.{If, If2, IfNull, IfSame}
use Rattle.class_model.specs.declared.opcodes.TheConstants.{IFEQ, IFGE, IFGT, IFLE, IFLT, IFNE, IFNONNULL, IFNULL, IF_ACMPEQ, IF_ACMPNE, IF_ICMPEQ, IF_ICMPGE, IF_ICMPGT, IF_ICMPLE, IF_ICMPLT, IF_ICMPNE}

-- the opcode of the conditional jump that is taken where the other one is not
abbrev pub opposite : ℕ → ℕ
opposite opcode =
    if opcode == IFEQ then IFNE
    else (if opcode == IFNE then IFEQ
    else (if opcode == IFLT then IFGE
    else (if opcode == IFGE then IFLT
    else (if opcode == IFGT then IFLE
    else (if opcode == IFLE then IFGT
    else (if opcode == IF_ICMPEQ then IF_ICMPNE
    else (if opcode == IF_ICMPNE then IF_ICMPEQ
    else (if opcode == IF_ICMPLT then IF_ICMPGE
    else (if opcode == IF_ICMPGE then IF_ICMPLT
    else (if opcode == IF_ICMPGT then IF_ICMPLE
    else (if opcode == IF_ICMPLE then IF_ICMPGT
    else (if opcode == IF_ACMPEQ then IF_ACMPNE
    else (if opcode == IF_ACMPNE then IF_ACMPEQ
    else (if opcode == IFNULL then IFNONNULL
    else (if opcode == IFNONNULL then IFNULL
    else opcode)))))))))))))))

-- the opposite of a conditional jump
abbrev pub opposite_instr : Instr → Option Instr
opposite_instr (If opcode to) = Some (If (opposite opcode) to)
opposite_instr (If2 opcode to) = Some (If2 (opposite opcode) to)
opposite_instr (IfSame opcode to) = Some (IfSame (opposite opcode) to)
opposite_instr (IfNull opcode to) = Some (IfNull (opposite opcode) to)
opposite_instr other = None
