-- The instructions and the bytes that spell them (JVM Specification SE 8, 6.5): one table, a row a form.
use Rattle.std.specs.Prelude.{◌≡◌, ◌==◌, ◌&&◌, ◌+◌, ◌-◌, ◌*◌, ◌/◌, ◌%◌, ◌^◌, ◌<◌, ◌≤◌, nat_lt, nat_le, ℕ, zero, suc, ℤ, pos, negsuc, int_lt, Bool, true, IsTrue, List, [], ◌∷◌, ◌++◌, length, drop, take, map, Option, Some, None, Result, Ok, Err, if◌then◌else◌}
use Rattle.std.specs.List.{list_any, AllByRecursion}
use Rattle.std.specs.Int.{w8, w16, w32, from_be_bytes, cast_signed, cast_unsigned}
use Rattle.class_model.specs.Checks.{Fault, fault, ◌>>=◌}
use Rattle.class_model.specs.Tables.{Row, one_row, row, given_in}
use Rattle.class_model.specs.declared.array_codes.TheConstants.{T_BOOLEAN, T_LONG}
use Rattle.class_model.specs.declared.descriptor.Kind.{Kind}
use Rattle.class_model.specs.declared.descriptor.Kind.TheVariants as kinds
use Rattle.class_model.specs.declared.fault.FileRule.TheVariants as rules
use Rattle.class_model.specs.declared.instr.Imm.TheVariants as imms
use Rattle.class_model.specs.declared.instr.Pair.{Pair}
use Rattle.class_model.specs.declared.instr.Placed.{Placed}
use Rattle.class_model.specs.declared.instr.Instr.{Instr}
use Rattle.class_model.specs.declared.instr.Instr.TheVariants.{Nop, Const, Ldc, Ldc2, Load, Store, Iinc, ArrayLoad, ArrayStore, Shuffle, Pure, Divide, FloatAsk, If, If2, IfSame, IfNull, Goto, Table, Lookup, Return, GetStatic, PutStatic, GetField, PutField, Invoke, Dynamic, New, NewArray, NewRefArray, NewMulti, Length, Throw, Cast, InstanceOf, Enter, Leave}
use Rattle.class_model.specs.declared.opcodes.TheConstants.{NOP, ACONST_NULL, ICONST_M1, ICONST_0, ICONST_5, LCONST_0, LCONST_1, FCONST_0, FCONST_2, DCONST_0, DCONST_1, BIPUSH, SIPUSH, LDC, LDC_W, LDC2_W, ILOAD, ALOAD, ILOAD_0, ALOAD_3, IALOAD, SALOAD, ISTORE, ASTORE, ISTORE_0, ASTORE_3, IASTORE, SASTORE, POP, SWAP, IADD, LADD, FADD, DADD, ISUB, LSUB, FSUB, DSUB, IMUL, LMUL, FMUL, DMUL, IDIV, LDIV, FDIV, DDIV, IREM, LREM, FREM, DREM, INEG, LNEG, FNEG, DNEG, ISHL, LXOR, IINC, I2L, I2F, I2D, L2I, L2F, D2F, I2B, LCMP, FCMPL, DCMPG, IFEQ, IFLE, IF_ICMPEQ, IF_ICMPLE, IF_ACMPEQ, IF_ACMPNE, GOTO, TABLESWITCH, LOOKUPSWITCH, IRETURN, ARETURN, RETURN, GETSTATIC, PUTSTATIC, GETFIELD, PUTFIELD, INVOKEVIRTUAL, INVOKESTATIC, INVOKEINTERFACE, INVOKEDYNAMIC, NEW, NEWARRAY, ANEWARRAY, ARRAYLENGTH, ATHROW, CHECKCAST, INSTANCEOF, MONITORENTER, MONITOREXIT, WIDE, MULTIANEWARRAY, IFNULL, IFNONNULL, GOTO_W}

-- ---- operands

-- What stands behind an opcode: numbers of one, two or four bytes, unsigned (U) or signed (S), jump offsets,
-- and the operands of the longer forms. Each says which instruction it makes.
pub data Operands : Type 0 where
  Alone : Instr → Operands
  U1 : (ℕ → Instr) → Operands
  U2 : (ℕ → Instr) → Operands
  S1 : (ℤ → Instr) → Operands
  S2 : (ℤ → Instr) → Operands
  U1S1 : (ℕ → ℤ → Instr) → Operands
  -- the code of a primitive type (newarray)
  ArrayCode : Operands
  -- an index and a number of dimensions, one at least (multianewarray)
  Dimensions : Operands
  -- an index, a count and a byte that is zero
  U2U1Zero : (ℕ → ℕ → Instr) → Operands
  -- an index and two bytes that are zero
  U2ZeroZero : (ℕ → Instr) → Operands
  -- the target of a jump of two or four bytes
  Jump2 : (ℕ → Instr) → Operands
  Jump4 : (ℕ → Instr) → Operands
  TableSwitch : Operands
  LookupSwitch : Operands
  Wide : Operands

-- int, long, float, double and reference, as the opcodes of loads, stores and returns count them
abbrev pub kind_at : ℕ → Kind
kind_at zero = kinds.Int
kind_at (suc zero) = kinds.Long
kind_at (suc (suc zero)) = kinds.Float
kind_at (suc (suc (suc zero))) = kinds.Double
kind_at (suc (suc (suc (suc n)))) = kinds.Ref

-- the bits of the floats 0, 1 and 2, and of the doubles 0 and 1
abbrev float_bits : ℕ → ℕ
float_bits zero = 0
float_bits (suc zero) = 0x3F800000
float_bits (suc (suc n)) = 0x40000000

abbrev double_bits : ℕ → ℕ
double_bits zero = 0
double_bits (suc n) = 0x3FF0000000000000

-- The forms of all opcodes. jsr, jsr_w and ret have none: 4.9.1 forbids the first two from version 51 on, and this
-- project's profile all three.
abbrev pub rows : List (Row Operands)
rows =
    one_row NOP (Alone Nop)
    ∷ one_row ACONST_NULL (Alone (Const imms.Null))
    ∷ one_row ICONST_M1 (Alone (Const (imms.Int (negsuc 0))))
    ∷ row ICONST_0 ICONST_5 (λ o. Alone (Const (imms.Int (pos (o - ICONST_0)))))
    ∷ row LCONST_0 LCONST_1 (λ o. Alone (Const (imms.Long (pos (o - LCONST_0)))))
    ∷ row FCONST_0 FCONST_2 (λ o. Alone (Const (imms.Float (float_bits (o - FCONST_0)))))
    ∷ row DCONST_0 DCONST_1 (λ o. Alone (Const (imms.Double (double_bits (o - DCONST_0)))))
    ∷ one_row BIPUSH (S1 (λ n. Const (imms.Int n)))
    ∷ one_row SIPUSH (S2 (λ n. Const (imms.Int n)))
    ∷ one_row LDC (U1 Ldc)
    ∷ one_row LDC_W (U2 Ldc)
    ∷ one_row LDC2_W (U2 Ldc2)
    ∷ row ILOAD ALOAD (λ o. U1 (Load (kind_at (o - ILOAD))))
    ∷ row ILOAD_0 ALOAD_3 (λ o. Alone (Load (kind_at ((o - ILOAD_0) / 4)) ((o - ILOAD_0) % 4)))
    ∷ row IALOAD SALOAD (λ o. Alone (ArrayLoad o))
    ∷ row ISTORE ASTORE (λ o. U1 (Store (kind_at (o - ISTORE))))
    ∷ row ISTORE_0 ASTORE_3 (λ o. Alone (Store (kind_at ((o - ISTORE_0) / 4)) ((o - ISTORE_0) % 4)))
    ∷ row IASTORE SASTORE (λ o. Alone (ArrayStore o))
    ∷ row POP SWAP (λ o. Alone (Shuffle o))
    ∷ row IADD LADD (λ o. Alone (Pure o))
    ∷ row FADD DADD (λ o. Alone (FloatAsk o))
    ∷ row ISUB LSUB (λ o. Alone (Pure o))
    ∷ row FSUB DSUB (λ o. Alone (FloatAsk o))
    ∷ row IMUL LMUL (λ o. Alone (Pure o))
    ∷ row FMUL DMUL (λ o. Alone (FloatAsk o))
    ∷ row IDIV LDIV (λ o. Alone (Divide o))
    ∷ row FDIV DDIV (λ o. Alone (FloatAsk o))
    ∷ row IREM LREM (λ o. Alone (Divide o))
    ∷ row FREM DREM (λ o. Alone (FloatAsk o))
    ∷ row INEG LNEG (λ o. Alone (Pure o))
    ∷ row FNEG DNEG (λ o. Alone (FloatAsk o))
    ∷ row ISHL LXOR (λ o. Alone (Pure o))
    ∷ one_row IINC (U1S1 Iinc)
    ∷ one_row I2L (Alone (Pure I2L))
    ∷ row I2F I2D (λ o. Alone (FloatAsk o))
    ∷ one_row L2I (Alone (Pure L2I))
    ∷ row L2F D2F (λ o. Alone (FloatAsk o))
    ∷ row I2B LCMP (λ o. Alone (Pure o))
    ∷ row FCMPL DCMPG (λ o. Alone (FloatAsk o))
    ∷ row IFEQ IFLE (λ o. Jump2 (If o))
    ∷ row IF_ICMPEQ IF_ICMPLE (λ o. Jump2 (If2 o))
    ∷ row IF_ACMPEQ IF_ACMPNE (λ o. Jump2 (IfSame o))
    ∷ one_row GOTO (Jump2 Goto)
    ∷ one_row TABLESWITCH TableSwitch
    ∷ one_row LOOKUPSWITCH LookupSwitch
    ∷ row IRETURN ARETURN (λ o. Alone (Return (Some (kind_at (o - IRETURN)))))
    ∷ one_row RETURN (Alone (Return None))
    ∷ one_row GETSTATIC (U2 GetStatic)
    ∷ one_row PUTSTATIC (U2 PutStatic)
    ∷ one_row GETFIELD (U2 GetField)
    ∷ one_row PUTFIELD (U2 PutField)
    ∷ row INVOKEVIRTUAL INVOKESTATIC (λ o. U2 (λ method. Invoke o method 0))
    ∷ one_row INVOKEINTERFACE (U2U1Zero (Invoke INVOKEINTERFACE))
    ∷ one_row INVOKEDYNAMIC (U2ZeroZero Dynamic)
    ∷ one_row NEW (U2 New)
    ∷ one_row NEWARRAY ArrayCode
    ∷ one_row ANEWARRAY (U2 NewRefArray)
    ∷ one_row ARRAYLENGTH (Alone Length)
    ∷ one_row ATHROW (Alone Throw)
    ∷ one_row CHECKCAST (U2 Cast)
    ∷ one_row INSTANCEOF (U2 InstanceOf)
    ∷ one_row MONITORENTER (Alone Enter)
    ∷ one_row MONITOREXIT (Alone Leave)
    ∷ one_row WIDE Wide
    ∷ one_row MULTIANEWARRAY Dimensions
    ∷ row IFNULL IFNONNULL (λ o. Jump2 (IfNull o))
    ∷ one_row GOTO_W (Jump4 Goto)
    ∷ []

-- what stands behind an opcode in rows, if it has a form there
abbrev pub operands_in : List (Row Operands) → ℕ → Option Operands
operands_in table opcode = given_in table opcode

-- behind a wide: the loads and stores with two bytes, and iinc with two and two (6.5.wide)
abbrev pub wide_rows : List (Row Operands)
wide_rows =
    row ILOAD ALOAD (λ o. U2 (Load (kind_at (o - ILOAD))))
    ∷ row ISTORE ASTORE (λ o. U2 (Store (kind_at (o - ISTORE))))
    ∷ []

-- ---- what is read

-- an instruction, and how many bytes it takes
abbrev pub Read : Type 0
Read = Result (Instr × ℕ) Fault

-- the unsigned number of some bytes of a list, from a place on
abbrev pub u1_in : List ℕ → ℕ → ℕ
u1_in bytes at = from_be_bytes w16 (0 ∷ take 1 (drop at bytes))

abbrev pub u2_in : List ℕ → ℕ → ℕ
u2_in bytes at = from_be_bytes w16 (take 2 (drop at bytes))

abbrev pub u4_in : List ℕ → ℕ → ℕ
u4_in bytes at = from_be_bytes w32 (take 4 (drop at bytes))

abbrev pub s1_in : List ℕ → ℕ → ℤ
s1_in bytes at = cast_signed w8 (u1_in bytes at)

abbrev pub s2_in : List ℕ → ℕ → ℤ
s2_in bytes at = cast_signed w16 (u2_in bytes at)

abbrev pub s4_in : List ℕ → ℕ → ℤ
s4_in bytes at = cast_signed w32 (u4_in bytes at)

-- A target is the opcode's offset and the signed number, in 32 bits. One before the code's start is then no
-- offset of a code.
abbrev pub target_of : ℕ → ℤ → ℕ
target_of at offset = (at + cast_unsigned w32 offset) % 2 ^ 32

-- an instruction of so many bytes, where there are so many
abbrev pub sized : ℕ → List ℕ → ℕ → Instr → Read
sized at bytes len instr =
    if nat_lt (length bytes) len then Err (fault at rules.Operand) else Ok (instr, len)

-- the same, where its operands are allowed
abbrev pub sized_if : Bool → ℕ → List ℕ → ℕ → Instr → Read
sized_if allowed at bytes len instr =
    if nat_lt (length bytes) len then Err (fault at rules.Operand)
    else (if allowed then Ok (instr, len) else Err (fault at rules.Operand))

-- the pad bytes behind the opcode of a switch: the operands begin at a multiple of four
abbrev pub pad_of : ℕ → ℕ
pad_of at = 3 - at % 4

-- so many targets of four bytes each, from a place of the bytes on
abbrev pub targets_in : ℕ → List ℕ → ℕ → ℕ → List ℕ
targets_in at bytes from zero = []
targets_in at bytes from (suc count) =
    target_of at (s4_in bytes from) ∷ targets_in at bytes (from + 4) count

-- so many pairs of a key and a target
abbrev pub pairs_in : ℕ → List ℕ → ℕ → ℕ → List Pair
pairs_in at bytes from zero = []
pairs_in at bytes from (suc count) = record {
  key = s4_in bytes from;
  to = target_of at (s4_in bytes (from + 4));
} ∷ pairs_in at bytes (from + 8) count

-- the keys increase
abbrev pub keys_increase : List Pair → Bool
keys_increase [] = true
keys_increase (p ∷ []) = true
keys_increase (p ∷ q ∷ pairs) = int_lt p.key q.key && keys_increase (q ∷ pairs)

-- how many numbers there are from low to high
abbrev pub span : ℤ → ℤ → ℕ
span low high = (cast_unsigned w32 high + 2 ^ 32 - cast_unsigned w32 low) % 2 ^ 32 + 1

-- tableswitch (6.5.tableswitch): pad, default, low, high, and a target for each key
abbrev pub table_switch_at : ℕ → List ℕ → Read
table_switch_at at bytes =
    let start = 1 + pad_of at in
    let low = s4_in bytes (start + 4) in
    let high = s4_in bytes (start + 8) in
    if nat_lt (length bytes) (start + 12) then Err (fault at rules.Operand)
    else (if int_lt high low then Err (fault at rules.Operand)
    else (let count = span low high in
    if nat_lt (length bytes) (start + 12 + 4 * count) then Err (fault at rules.Operand)
    else Ok (
      Table low (target_of at (s4_in bytes start))
          (targets_in at bytes (start + 12) count),
      start + 12 + 4 * count,
    )))

-- lookupswitch (6.5.lookupswitch): pad, default, a count that is not negative, and keys that increase
abbrev pub lookup_switch_at : ℕ → List ℕ → Read
lookup_switch_at at bytes =
    let start = 1 + pad_of at in
    let count = u4_in bytes (start + 4) in
    if nat_lt (length bytes) (start + 8) then Err (fault at rules.Operand)
    else (if nat_le (2 ^ 31) count then Err (fault at rules.Operand)
    else (if nat_lt (length bytes) (start + 8 + 8 * count) then Err (fault at rules.Operand)
    else (let pairs = pairs_in at bytes (start + 8) count in
    if keys_increase pairs then Ok
    (Lookup (target_of at (s4_in bytes start)) pairs, start + 8 + 8 * count)
    else Err (fault at rules.Operand))))

-- wide (6.5.wide), whose opcode is the second byte
abbrev pub wide_operands : ℕ → List ℕ → Option Operands → Read
wide_operands at bytes (Some (U2 makes)) = sized at bytes 4 (makes (u2_in bytes 2))
wide_operands at bytes other =
    if u1_in bytes 1 == IINC then sized at bytes 6 (Iinc (u2_in bytes 2) (s2_in bytes 4))
    else Err (fault at rules.Opcode)

-- an instruction behind a wide, with the wide
abbrev pub wide_at : ℕ → List ℕ → Read
wide_at at bytes =
    if nat_lt (length bytes) 2 then Err (fault at rules.Operand)
    else wide_operands at bytes (operands_in wide_rows (u1_in bytes 1))

-- the code of a primitive type that newarray makes arrays of (table 6.5.newarray-A)
abbrev pub is_array_code : ℕ → Bool
is_array_code code = nat_le T_BOOLEAN code && nat_le code T_LONG

-- multianewarray makes at least one dimension (6.5.multianewarray)
abbrev pub has_dimensions : ℕ → Bool
has_dimensions dimensions = nat_lt 0 dimensions

-- the instruction of an opcode with these operands, whose bytes begin with the opcode
abbrev pub with_operands : ℕ → List ℕ → Option Operands → Read
with_operands at bytes None = Err (fault at rules.Opcode)
with_operands at bytes (Some (Alone instr)) = Ok (instr, 1)
with_operands at bytes (Some (U1 makes)) = sized at bytes 2 (makes (u1_in bytes 1))
with_operands at bytes (Some (U2 makes)) = sized at bytes 3 (makes (u2_in bytes 1))
with_operands at bytes (Some (S1 makes)) = sized at bytes 2 (makes (s1_in bytes 1))
with_operands at bytes (Some (S2 makes)) = sized at bytes 3 (makes (s2_in bytes 1))
with_operands at bytes (Some (U1S1 makes)) =
    sized at bytes 3 (makes (u1_in bytes 1) (s1_in bytes 2))
with_operands at bytes (Some ArrayCode) =
    sized_if (is_array_code (u1_in bytes 1)) at bytes 2 (NewArray (u1_in bytes 1))
with_operands at bytes (Some Dimensions) =
    sized_if (has_dimensions (u1_in bytes 3)) at bytes 4 (NewMulti (u2_in bytes 1) (u1_in bytes 3))
with_operands at bytes (Some (U2U1Zero makes)) =
    sized_if (u1_in bytes 4 == 0) at bytes 5 (makes (u2_in bytes 1) (u1_in bytes 3))
with_operands at bytes (Some (U2ZeroZero makes)) =
    sized_if (u2_in bytes 3 == 0) at bytes 5 (makes (u2_in bytes 1))
with_operands at bytes (Some (Jump2 makes)) =
    sized at bytes 3 (makes (target_of at (s2_in bytes 1)))
with_operands at bytes (Some (Jump4 makes)) =
    sized at bytes 5 (makes (target_of at (s4_in bytes 1)))
with_operands at bytes (Some TableSwitch) = table_switch_at at bytes
with_operands at bytes (Some LookupSwitch) = lookup_switch_at at bytes
with_operands at bytes (Some Wide) = wide_at at bytes

-- The instruction at an offset of a code, whose bytes from there on these are: the first of them is its
-- opcode.
unfoldable pub instr_at : ℕ → List ℕ → Read
instr_at at bytes = with_operands at bytes (operands_in rows (u1_in bytes 0))

-- These bytes, whatever follows them, are the instruction at this offset.
abbrev pub IsSpelling : ℕ → Instr → List ℕ → Type 0
IsSpelling at instr bytes = (rest : List ℕ) → instr_at at (bytes ++ rest) ≡ Ok (instr, length bytes)

-- The instructions of a code from an offset on, one after the other to its end. The first number bounds how
-- many there are.
unfoldable pub instrs_at : ℕ → ℕ → List ℕ → Result (List Placed) Fault
instrs_at left at [] = Ok []
instrs_at zero at (byte ∷ bytes) = Ok []
instrs_at (suc left) at (byte ∷ bytes) = do
  read ← instr_at at (byte ∷ bytes)
  others ← instrs_at left (at + read.1) (drop read.1 (byte ∷ bytes))
  Ok (record { at = at; len = read.1; instr = read.0 } ∷ others)

-- all instructions of a code (4.7.3, 4.9.1)
abbrev pub decoded : List ℕ → Result (List Placed) Fault
decoded code = instrs_at (length code) 0 code

-- an instruction starts at an offset
abbrev pub is_start : List Placed → ℕ → Bool
is_start code at = list_any (λ p. p.at == at) code

-- the targets of an instruction: of a switch the default first
abbrev pub targets : Instr → List ℕ
targets (If opcode to) = to ∷ []
targets (If2 opcode to) = to ∷ []
targets (IfSame opcode to) = to ∷ []
targets (IfNull opcode to) = to ∷ []
targets (Goto to) = to ∷ []
targets (Table low other to) = other ∷ to
targets (Lookup other pairs) = other ∷ map (λ p. p.to) pairs
targets instr = []

-- A code as its instructions: from 1 to 65,535 bytes, entries that cover it without a gap, and targets that are
-- offsets of entries.
pub record CodeOf (code : List ℕ) (instrs : List Placed) : Type 0 where
  pub some : 0 < length code
  pub few : length code ≤ 65535
  pub covers : decoded code ≡ Ok instrs
  pub starts : AllByRecursion
      (λ p. AllByRecursion (λ to. IsTrue (is_start instrs to)) (targets p.instr)) instrs
