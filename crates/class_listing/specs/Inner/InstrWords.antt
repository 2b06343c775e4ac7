-- The operands of an instruction as a program has them: the instruction that was decoded, its length and the pad bytes of a switch.
use Rattle.std.specs.Prelude.{◌==◌, ◌-◌, ℕ, ℤ, pos, ◌+ℤ◌, List, [], ◌∷◌, ◌++◌, length, map, codes, decimal, if◌then◌else◌}
use Rattle.std.specs.Fmt.{signed_decimal}
use Rattle.std.specs.Int.{w32, cast_signed}
use Rattle.class_model.specs.declared.instr.Imm.{Imm}
use Rattle.class_model.specs.declared.instr.Imm.TheVariants as imms
use Rattle.class_model.specs.declared.instr.Pair.{Pair}
use Rattle.class_model.specs.declared.instr.Instr.{Instr}
use Rattle.class_model.specs.declared.instr.Instr.TheVariants.{Const, Ldc, Ldc2, Load, Store, Iinc, If, If2, IfSame, IfNull, Goto, Table, Lookup, GetStatic, PutStatic, GetField, PutField, Invoke, Dynamic, New, NewArray, NewRefArray, NewMulti, Cast, InstanceOf}
use Rattle.class_model.specs.declared.opcodes.TheConstants.{INVOKEINTERFACE}
use Rattle.code_bytes.specs.Forms.{offset_of}
use Rattle.script_text.specs.PrintedTexts.{Bytes}
use Rattle.script_text.specs.Scripts.{Word}
use Rattle.class_listing.specs.Operations.{hex_word}

-- a target, which an instruction keeps in 32 bits: its offset, and the signed number from there on
abbrev pub kept_target : ℕ → ℕ → ℤ
kept_target at to = pos at +ℤ cast_signed w32 (offset_of at to)

abbrev pub target_word : ℕ → ℕ → Word
target_word at to = signed_decimal (kept_target at to)

abbrev pub pair_word : ℕ → Pair → Word
pair_word at pair = signed_decimal pair.key ++ codes ":" ++ target_word at pair.to

-- the pad bytes of a switch, and its default target
abbrev pub switch_words : ℕ → Bytes → ℕ → List Word
switch_words at pad other =
    (codes "pad=" ++ hex_word pad) ∷ (codes "default=" ++ target_word at other) ∷ []

-- the lowest and the highest of so many keys
abbrev pub range_words : ℤ → ℕ → List Word
range_words low count =
    (codes "low=" ++ signed_decimal low)
    ∷ (codes "high=" ++ signed_decimal (low +ℤ pos (count - 1)))
    ∷ []

abbrev pub table_words : ℕ → Bytes → ℤ → ℕ → List ℕ → List Word
table_words at pad low other to =
    switch_words at pad other ++ range_words low (length to) ++ map (target_word at) to

abbrev pub lookup_words : ℕ → Bytes → ℕ → List Pair → List Word
lookup_words at pad other pairs = switch_words at pad other ++ map (pair_word at) pairs

-- what an instruction pushes, where it does not stand for its opcode alone
abbrev pub imm_words : ℕ → Imm → List Word
imm_words len (imms.Int number) = if len == 1 then [] else signed_decimal number ∷ []
imm_words len other = []

-- a local unit, where the opcode does not name it
abbrev pub local_words : ℕ → ℕ → List Word
local_words len index = if len == 1 then [] else decimal index ∷ []

abbrev pub call_words : ℕ → ℕ → ℕ → List Word
call_words opcode method count =
    decimal method ∷ (if opcode == INVOKEINTERFACE then decimal count ∷ [] else [])

abbrev pub instr_words : ℕ → Bytes → ℕ → Instr → List Word
instr_words at pad len (Const value) = imm_words len value
instr_words at pad len (Ldc index) = decimal index ∷ []
instr_words at pad len (Ldc2 index) = decimal index ∷ []
instr_words at pad len (Load kind index) = local_words len index
instr_words at pad len (Store kind index) = local_words len index
instr_words at pad len (Iinc index number) = decimal index ∷ signed_decimal number ∷ []
instr_words at pad len (If opcode to) = target_word at to ∷ []
instr_words at pad len (If2 opcode to) = target_word at to ∷ []
instr_words at pad len (IfSame opcode to) = target_word at to ∷ []
instr_words at pad len (IfNull opcode to) = target_word at to ∷ []
instr_words at pad len (Goto to) = target_word at to ∷ []
instr_words at pad len (Table low other to) = table_words at pad low other to
instr_words at pad len (Lookup other pairs) = lookup_words at pad other pairs
instr_words at pad len (GetStatic field) = decimal field ∷ []
instr_words at pad len (PutStatic field) = decimal field ∷ []
instr_words at pad len (GetField field) = decimal field ∷ []
instr_words at pad len (PutField field) = decimal field ∷ []
instr_words at pad len (Invoke opcode method count) = call_words opcode method count
instr_words at pad len (Dynamic site) = decimal site ∷ []
instr_words at pad len (New class) = decimal class ∷ []
instr_words at pad len (NewArray code) = decimal code ∷ []
instr_words at pad len (NewRefArray class) = decimal class ∷ []
instr_words at pad len (NewMulti class dimensions) = decimal class ∷ decimal dimensions ∷ []
instr_words at pad len (Cast class) = decimal class ∷ []
instr_words at pad len (InstanceOf class) = decimal class ∷ []
instr_words at pad len instr = []
