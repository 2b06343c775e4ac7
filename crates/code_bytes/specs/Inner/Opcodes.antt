-- The rows of the table of instructions as a program tells them apart: by tests of the opcode.
use Rattle.std.specs.Prelude.{◌==◌, ◌&&◌, ◌||◌, ◌-◌, ◌/◌, ◌%◌, nat_le, ℕ, pos, negsuc, Bool, Option, Some, None, if◌then◌else◌}
use Rattle.class_model.specs.Instructions.{Operands, Alone, U1, U2, S1, S2, U1S1, ArrayCode, Dimensions, U2U1Zero, U2ZeroZero, Jump2, Jump4, TableSwitch, LookupSwitch, Wide, kind_at}
use Rattle.class_model.specs.declared.instr.Imm.{Imm}
use Rattle.class_model.specs.declared.instr.Imm.TheVariants as imms
use Rattle.class_model.specs.declared.instr.Instr.{Instr}
use Rattle.class_model.specs.declared.instr.Instr.TheVariants as instrs
use Rattle.class_model.specs.declared.opcodes.TheConstants.{NOP, ACONST_NULL, ICONST_M1, ICONST_0, ICONST_5, LCONST_0, LCONST_1, FCONST_0, FCONST_1, FCONST_2, DCONST_0, DCONST_1, BIPUSH, SIPUSH, LDC, LDC_W, LDC2_W, ILOAD, ALOAD, ILOAD_0, ALOAD_3, IALOAD, SALOAD, ISTORE, ASTORE, ISTORE_0, ASTORE_3, IASTORE, SASTORE, POP, SWAP, IADD, LADD, ISUB, LSUB, IMUL, LMUL, IDIV, LDIV, IREM, LREM, INEG, LNEG, ISHL, LXOR, IINC, I2L, L2I, I2B, LCMP, DCMPG, IFEQ, IFLE, IF_ICMPEQ, IF_ICMPLE, IF_ACMPEQ, IF_ACMPNE, GOTO, TABLESWITCH, LOOKUPSWITCH, IRETURN, ARETURN, RETURN, GETSTATIC, PUTSTATIC, GETFIELD, PUTFIELD, INVOKEVIRTUAL, INVOKESTATIC, INVOKEINTERFACE, INVOKEDYNAMIC, NEW, NEWARRAY, ANEWARRAY, ARRAYLENGTH, ATHROW, CHECKCAST, INSTANCEOF, MONITORENTER, MONITOREXIT, WIDE, MULTIANEWARRAY, IFNULL, IFNONNULL, GOTO_W}
use Rattle.code_bytes.specs.declared.layouts.Layout.{Layout}
use Rattle.code_bytes.specs.declared.layouts.Layout.TheVariants as layouts

abbrev between : ℕ → ℕ → ℕ → Bool
between low high opcode = nat_le low opcode && nat_le opcode high

-- ---- what stands behind an opcode

abbrev is_alone : ℕ → Bool
is_alone o =
    between NOP DCONST_1 o
    || between ILOAD_0 SALOAD o
    || between ISTORE_0 LXOR o
    || between I2L DCMPG o
    || between IRETURN RETURN o
    || (o == ARRAYLENGTH)
    || (o == ATHROW)
    || (o == MONITORENTER)
    || (o == MONITOREXIT)

abbrev is_u1 : ℕ → Bool
is_u1 o = (o == LDC) || between ILOAD ALOAD o || between ISTORE ASTORE o

abbrev is_u2 : ℕ → Bool
is_u2 o =
    (o == LDC_W)
    || (o == LDC2_W)
    || between GETSTATIC INVOKESTATIC o
    || (o == NEW)
    || (o == ANEWARRAY)
    || (o == CHECKCAST)
    || (o == INSTANCEOF)

abbrev is_jump : ℕ → Bool
is_jump o = between IFEQ GOTO o || (o == IFNULL) || (o == IFNONNULL)

unfoldable pub layout_of : ℕ → Option Layout
layout_of o =
    if is_alone o then Some layouts.Alone
    else (if o == BIPUSH then Some layouts.S1
    else (if o == SIPUSH then Some layouts.S2
    else (if is_u1 o then Some layouts.U1
    else (if is_u2 o then Some layouts.U2
    else (if o == IINC then Some layouts.U1S1
    else (if is_jump o then Some layouts.Jump2
    else (if o == TABLESWITCH then Some layouts.TableSwitch
    else (if o == LOOKUPSWITCH then Some layouts.LookupSwitch
    else (if o == INVOKEINTERFACE then Some layouts.U2U1Zero
    else (if o == INVOKEDYNAMIC then Some layouts.U2ZeroZero
    else (if o == NEWARRAY then Some layouts.ArrayCode
    else (if o == WIDE then Some layouts.Wide
    else (if o == MULTIANEWARRAY then Some layouts.Dimensions
    else (if o == GOTO_W then Some layouts.Jump4
    else None))))))))))))))

-- ---- the instruction of an opcode and of what stands behind it

abbrev pub constant_of : ℕ → Imm
constant_of o =
    if o == ACONST_NULL then imms.Null
    else (if o == ICONST_M1 then imms.Int (negsuc 0)
    else (if between ICONST_0 ICONST_5 o then imms.Int (pos (o - ICONST_0))
    else (if between LCONST_0 LCONST_1 o then imms.Long (pos (o - LCONST_0))
    else (if o == FCONST_0 then imms.Float 0
    else (if o == FCONST_1 then imms.Float 0x3F800000
    else (if o == FCONST_2 then imms.Float 0x40000000
    else (if o == DCONST_0 then imms.Double 0
    else imms.Double 0x3FF0000000000000)))))))

abbrev is_divide : ℕ → Bool
is_divide o = between IDIV LDIV o || between IREM LREM o

abbrev is_pure : ℕ → Bool
is_pure o =
    between IADD LADD o
    || between ISUB LSUB o
    || between IMUL LMUL o
    || between INEG LNEG o
    || between ISHL LXOR o
    || (o == I2L)
    || (o == L2I)
    || between I2B LCMP o

abbrev pub arithmetic_of : ℕ → Instr
arithmetic_of o =
    if is_divide o then instrs.Divide o
    else (if is_pure o then instrs.Pure o else instrs.FloatAsk o)

abbrev pub alone_of : ℕ → Instr
alone_of o =
    if o == NOP then instrs.Nop
    else (if between ACONST_NULL DCONST_1 o then instrs.Const (constant_of o)
    else (if between ILOAD_0 ALOAD_3 o then instrs.Load (kind_at ((o - ILOAD_0) / 4))
    ((o - ILOAD_0) % 4)
    else (if between IALOAD SALOAD o then instrs.ArrayLoad o
    else (if between ISTORE_0 ASTORE_3 o then instrs.Store (kind_at ((o - ISTORE_0) / 4))
    ((o - ISTORE_0) % 4)
    else (if between IASTORE SASTORE o then instrs.ArrayStore o
    else (if between POP SWAP o then instrs.Shuffle o
    else (if between IADD DCMPG o then arithmetic_of o
    else (if between IRETURN ARETURN o then instrs.Return (Some (kind_at (o - IRETURN)))
    else (if o == RETURN then instrs.Return None
    else (if o == ARRAYLENGTH then instrs.Length
    else (if o == ATHROW then instrs.Throw
    else (if o == MONITORENTER then instrs.Enter
    else instrs.Leave))))))))))))

abbrev pub u1_of : ℕ → ℕ → Instr
u1_of o number =
    if between ILOAD ALOAD o then instrs.Load (kind_at (o - ILOAD)) number
    else (if between ISTORE ASTORE o then instrs.Store (kind_at (o - ISTORE)) number
    else instrs.Ldc number)

abbrev pub u2_of : ℕ → ℕ → Instr
u2_of o number =
    if o == LDC_W then instrs.Ldc number
    else (if o == LDC2_W then instrs.Ldc2 number
    else (if o == GETSTATIC then instrs.GetStatic number
    else (if o == PUTSTATIC then instrs.PutStatic number
    else (if o == GETFIELD then instrs.GetField number
    else (if o == PUTFIELD then instrs.PutField number
    else (if between INVOKEVIRTUAL INVOKESTATIC o then instrs.Invoke o number 0
    else (if o == NEW then instrs.New number
    else (if o == ANEWARRAY then instrs.NewRefArray number
    else (if o == CHECKCAST then instrs.Cast number
    else instrs.InstanceOf number)))))))))

abbrev pub jump_of : ℕ → ℕ → Instr
jump_of o to =
    if between IFEQ IFLE o then instrs.If o to
    else (if between IF_ICMPEQ IF_ICMPLE o then instrs.If2 o to
    else (if between IF_ACMPEQ IF_ACMPNE o then instrs.IfSame o to
    else (if o == GOTO then instrs.Goto to
    else instrs.IfNull o to)))

-- the operands that stand behind an opcode of a layout
abbrev pub operands_of : Option Layout → ℕ → Option Operands
operands_of None o = None
operands_of (Some layouts.Alone) o = Some (Alone (alone_of o))
operands_of (Some layouts.S1) o = Some (S1 (λ n. instrs.Const (imms.Int n)))
operands_of (Some layouts.S2) o = Some (S2 (λ n. instrs.Const (imms.Int n)))
operands_of (Some layouts.U1) o = Some (U1 (u1_of o))
operands_of (Some layouts.U2) o = Some (U2 (u2_of o))
operands_of (Some layouts.U1S1) o = Some (U1S1 instrs.Iinc)
operands_of (Some layouts.Jump2) o = Some (Jump2 (jump_of o))
operands_of (Some layouts.Jump4) o = Some (Jump4 instrs.Goto)
operands_of (Some layouts.TableSwitch) o = Some TableSwitch
operands_of (Some layouts.LookupSwitch) o = Some LookupSwitch
operands_of (Some layouts.U2U1Zero) o = Some (U2U1Zero (instrs.Invoke o))
operands_of (Some layouts.U2ZeroZero) o = Some (U2ZeroZero instrs.Dynamic)
operands_of (Some layouts.ArrayCode) o = Some ArrayCode
operands_of (Some layouts.Dimensions) o = Some Dimensions
operands_of (Some layouts.Wide) o = Some Wide
