-- The bytes that are written of an instruction, form by form (JVM Specification SE 8, 6.5): the shortest form
-- that its numbers fit, with zeros for pad bytes.
use Rattle.std.specs.Prelude.{◌==◌, ◌&&◌, ◌||◌, ◌+◌, ◌-◌, ◌*◌, ◌%◌, ◌^◌, nat_lt, nat_le, ℕ, ℤ, pos, negsuc, int_le, unsigned_abs, ◌+ℤ◌, Bool, List, [], ◌∷◌, ◌++◌, length, replicate, Option, Some, None, if◌then◌else◌}
use Rattle.std.specs.Int.{w8, w16, w32, cast_unsigned}
use Rattle.std.specs.List.{flat_map}
use Rattle.class_model.specs.Spelling.{u2, u4}
use Rattle.class_model.specs.Instructions.{pad_of}
use Rattle.class_model.specs.declared.descriptor.Kind.{Kind}
use Rattle.class_model.specs.declared.descriptor.Kind.TheVariants as kinds
use Rattle.class_model.specs.declared.instr.Imm.{Imm}
use Rattle.class_model.specs.declared.instr.Imm.TheVariants as imms
use Rattle.class_model.specs.declared.instr.Pair.{Pair}
use Rattle.class_model.specs.declared.instr.Instr.{Instr}
use Rattle.class_model.specs.declared.instr.Instr.TheVariants.{Nop, Const, Ldc, Ldc2, Load, Store, Iinc, ArrayLoad, ArrayStore, Shuffle, Pure, Divide, FloatAsk, If, If2, IfSame, IfNull, Goto, Table, Lookup, Return, GetStatic, PutStatic, GetField, PutField, Invoke, Dynamic, New, NewArray, NewRefArray, NewMulti, Length, Throw, Cast, InstanceOf, Enter, Leave}
use Rattle.class_model.specs.declared.opcodes.TheConstants.{NOP, ACONST_NULL, LCONST_0, FCONST_0, FCONST_1, FCONST_2, DCONST_0, DCONST_1, BIPUSH, SIPUSH, LDC, LDC_W, LDC2_W, ILOAD, ILOAD_0, ISTORE, ISTORE_0, IINC, GOTO, TABLESWITCH, LOOKUPSWITCH, IRETURN, RETURN, GETSTATIC, PUTSTATIC, GETFIELD, PUTFIELD, INVOKEINTERFACE, INVOKEDYNAMIC, NEW, NEWARRAY, ANEWARRAY, ARRAYLENGTH, ATHROW, CHECKCAST, INSTANCEOF, MONITORENTER, MONITOREXIT, WIDE, MULTIANEWARRAY, GOTO_W}

-- int, long, float, double and reference, as opcodes count them
abbrev pub kind_index : Kind → ℕ
kind_index kinds.Int = 0
kind_index kinds.Long = 1
kind_index kinds.Float = 2
kind_index kinds.Double = 3
kind_index kinds.Ref = 4

-- a number fits a signed byte
abbrev pub is_short : ℤ → Bool
is_short number = int_le (negsuc 127) number && int_le number (pos 127)

-- an int: iconst, bipush or sipush
abbrev pub int_bytes : ℤ → List ℕ
int_bytes number =
    if int_le (negsuc 0) number && int_le number (pos 5) then unsigned_abs (number +ℤ pos 3) ∷ []
    else (if is_short number then BIPUSH ∷ cast_unsigned w8 number ∷ []
    else SIPUSH ∷ u2 (cast_unsigned w16 number))

-- null, or a number
abbrev pub pushed_bytes : Imm → List ℕ
pushed_bytes imms.Null = ACONST_NULL ∷ []
pushed_bytes (imms.Int number) = int_bytes number
pushed_bytes (imms.Long number) = (LCONST_0 + unsigned_abs number) ∷ []
pushed_bytes (imms.Float bits) =
    (if bits == 0 then FCONST_0 else (if bits == 0x3F800000 then FCONST_1 else FCONST_2)) ∷ []
pushed_bytes (imms.Double bits) = (if bits == 0 then DCONST_0 else DCONST_1) ∷ []

-- ldc or ldc_w
abbrev pub ldc_bytes : ℕ → List ℕ
ldc_bytes index = if nat_lt index 256 then LDC ∷ index ∷ [] else LDC_W ∷ u2 index

-- a load or store, whose opcodes of one byte and with an index these are: of one byte, with an index, or wide
abbrev pub local_bytes : ℕ → ℕ → Kind → ℕ → List ℕ
local_bytes short general kind index =
    if nat_lt index 4 then (short + 4 * kind_index kind + index) ∷ []
    else (if nat_lt index 256 then (general + kind_index kind) ∷ index ∷ []
    else WIDE ∷ (general + kind_index kind) ∷ u2 index)

-- iinc, or wide iinc
abbrev pub iinc_bytes : ℕ → ℤ → List ℕ
iinc_bytes index number =
    if nat_lt index 256 && is_short number then IINC ∷ index ∷ cast_unsigned w8 number ∷ []
    else WIDE ∷ IINC ∷ (u2 index ++ u2 (cast_unsigned w16 number))

-- a jump's offset from an opcode to a target, in 32 bits
abbrev pub offset_of : ℕ → ℕ → ℕ
offset_of at to = (to + (2 ^ 32 - at % 2 ^ 32)) % 2 ^ 32

-- these 32 bits fit 16, as signed numbers
abbrev pub is_near : ℕ → Bool
is_near offset = nat_lt offset 0x8000 || nat_le 0xFFFF8000 offset

-- a jump of 16 bits
abbrev pub jump_bytes : ℕ → ℕ → ℕ → List ℕ
jump_bytes opcode at to = opcode ∷ u2 (offset_of at to % 2 ^ 16)

-- goto or goto_w
abbrev pub goto_bytes : ℕ → ℕ → List ℕ
goto_bytes at to =
    if is_near (offset_of at to) then jump_bytes GOTO at to else GOTO_W ∷ u4 (offset_of at to)

-- the opcode of a switch and its pad bytes, before its other operands
abbrev pub switch_bytes : ℕ → ℕ → List ℕ → List ℕ
switch_bytes opcode at operands = opcode ∷ (replicate (pad_of at) 0 ++ operands)

-- a target of a switch
abbrev pub target_bytes : ℕ → ℕ → List ℕ
target_bytes at to = u4 (offset_of at to)

-- tableswitch
abbrev pub table_bytes : ℕ → ℤ → ℕ → List ℕ → List ℕ
table_bytes at low other to =
    switch_bytes TABLESWITCH at (target_bytes at other
    ++ (u4 (cast_unsigned w32 low)
    ++ (u4 (cast_unsigned w32 (low +ℤ pos (length to - 1))) ++ flat_map (target_bytes at) to)))

-- a key and its target
abbrev pub pair_bytes : ℕ → Pair → List ℕ
pair_bytes at pair = u4 (cast_unsigned w32 pair.key) ++ target_bytes at pair.to

-- lookupswitch
abbrev pub lookup_bytes : ℕ → ℕ → List Pair → List ℕ
lookup_bytes at other pairs =
    switch_bytes LOOKUPSWITCH at
    (target_bytes at other ++ (u4 (length pairs) ++ flat_map (pair_bytes at) pairs))

-- the return of a value, or of none
abbrev pub return_bytes : Option Kind → List ℕ
return_bytes None = RETURN ∷ []
return_bytes (Some kind) = (IRETURN + kind_index kind) ∷ []

-- a call: of an interface, with the count and a byte that is zero
abbrev pub invoke_bytes : ℕ → ℕ → ℕ → List ℕ
invoke_bytes opcode method count =
    if opcode == INVOKEINTERFACE then INVOKEINTERFACE ∷ (u2 method ++ count ∷ 0 ∷ [])
    else opcode ∷ u2 method

-- an instruction at an offset
unfoldable pub instr_bytes : ℕ → Instr → List ℕ
instr_bytes at Nop = NOP ∷ []
instr_bytes at (Const value) = pushed_bytes value
instr_bytes at (Ldc index) = ldc_bytes index
instr_bytes at (Ldc2 index) = LDC2_W ∷ u2 index
instr_bytes at (Load kind index) = local_bytes ILOAD_0 ILOAD kind index
instr_bytes at (Store kind index) = local_bytes ISTORE_0 ISTORE kind index
instr_bytes at (Iinc index number) = iinc_bytes index number
instr_bytes at (ArrayLoad opcode) = opcode ∷ []
instr_bytes at (ArrayStore opcode) = opcode ∷ []
instr_bytes at (Shuffle opcode) = opcode ∷ []
instr_bytes at (Pure opcode) = opcode ∷ []
instr_bytes at (Divide opcode) = opcode ∷ []
instr_bytes at (FloatAsk opcode) = opcode ∷ []
instr_bytes at (If opcode to) = jump_bytes opcode at to
instr_bytes at (If2 opcode to) = jump_bytes opcode at to
instr_bytes at (IfSame opcode to) = jump_bytes opcode at to
instr_bytes at (IfNull opcode to) = jump_bytes opcode at to
instr_bytes at (Goto to) = goto_bytes at to
instr_bytes at (Table low other to) = table_bytes at low other to
instr_bytes at (Lookup other pairs) = lookup_bytes at other pairs
instr_bytes at (Return kind) = return_bytes kind
instr_bytes at (GetStatic field) = GETSTATIC ∷ u2 field
instr_bytes at (PutStatic field) = PUTSTATIC ∷ u2 field
instr_bytes at (GetField field) = GETFIELD ∷ u2 field
instr_bytes at (PutField field) = PUTFIELD ∷ u2 field
instr_bytes at (Invoke opcode method count) = invoke_bytes opcode method count
instr_bytes at (Dynamic site) = INVOKEDYNAMIC ∷ (u2 site ++ 0 ∷ 0 ∷ [])
instr_bytes at (New class) = NEW ∷ u2 class
instr_bytes at (NewArray code) = NEWARRAY ∷ code ∷ []
instr_bytes at (NewRefArray class) = ANEWARRAY ∷ u2 class
instr_bytes at (NewMulti class dimensions) = MULTIANEWARRAY ∷ (u2 class ++ dimensions ∷ [])
instr_bytes at Length = ARRAYLENGTH ∷ []
instr_bytes at Throw = ATHROW ∷ []
instr_bytes at (Cast class) = CHECKCAST ∷ u2 class
instr_bytes at (InstanceOf class) = INSTANCEOF ∷ u2 class
instr_bytes at Enter = MONITORENTER ∷ []
instr_bytes at Leave = MONITOREXIT ∷ []
