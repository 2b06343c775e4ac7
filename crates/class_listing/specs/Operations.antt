-- How an instruction is listed: its mnemonic and its operands. An operand is a row of two tables, of which one gives its words and the
-- other its bytes, so that instructions are listed by the one and read back by the other (JVM Specification SE 8, 6.5; the words are
-- this project's profile).
use Rattle.std.specs.Prelude.{◌==◌, ◌+◌, ℕ, zero, suc, ℤ, pos, ◌+ℤ◌, ◌-ℤ◌, List, [], ◌∷◌, ◌++◌, take, drop, codes, decimal, Option, None, Some, if◌then◌else◌}
use Rattle.std.specs.Fmt.{signed_decimal}
use Rattle.std.specs.Int.{w8, w16, w32, cast_unsigned}
use Rattle.std.specs.List.{flat_map}
use Rattle.class_model.specs.Instructions.{Operands, Alone, U1, U2, S1, S2, U1S1, ArrayCode, Dimensions, U2U1Zero, U2ZeroZero, Jump2, Jump4, TableSwitch, LookupSwitch, Wide, operands_in, rows, u1_in, u2_in, u4_in, s1_in, s2_in, s4_in, pad_of, span}
use Rattle.class_model.specs.Spelling.{u2, u4}
use Rattle.class_model.specs.declared.opcodes.TheConstants.{IINC, WIDE}
use Rattle.script_text.specs.PrintedTexts.{Bytes, hex_text}
use Rattle.script_text.specs.Scripts.{Word}
use Rattle.script_text.specs.Characters.{dash}
use Rattle.class_listing.specs.Mnemonics.{mnemonic}

-- ---- bytes

-- two hexadecimal digits for each byte
abbrev pub hex_digits : Bytes → Bytes
hex_digits bytes = flat_map (hex_text 2) bytes

-- and a dash where there are none
abbrev pub hex_word : Bytes → Word
hex_word [] = dash ∷ []
hex_word (byte ∷ bytes) = hex_digits (byte ∷ bytes)

-- ---- operands

-- An operand, as the table of instructions has it: a number, a byte that is zero, the target of a jump as an offset of the code, or a
-- part of a switch.
pub data Operand : Type 0 where
  u1_operand : ℕ → Operand
  u2_operand : ℕ → Operand
  s1_operand : ℤ → Operand
  s2_operand : ℤ → Operand
  zero_operand : Operand
  jump2_operand : ℤ → Operand
  jump4_operand : ℤ → Operand
  pad_operand : Bytes → Operand
  default_operand : ℤ → Operand
  low_operand : ℤ → Operand
  high_operand : ℤ → Operand
  -- how many keys follow
  count_operand : ℕ → Operand
  -- a key and its target
  key_operand : ℤ → ℤ → Operand

-- What is listed of an operand: nothing of a byte that must be zero, and nothing of a count that the keys show.
abbrev pub operand_words : Operand → List Word
operand_words (u1_operand number) = decimal number ∷ []
operand_words (u2_operand number) = decimal number ∷ []
operand_words (s1_operand number) = signed_decimal number ∷ []
operand_words (s2_operand number) = signed_decimal number ∷ []
operand_words zero_operand = []
operand_words (jump2_operand to) = signed_decimal to ∷ []
operand_words (jump4_operand to) = signed_decimal to ∷ []
operand_words (pad_operand bytes) = (codes "pad=" ++ hex_word bytes) ∷ []
operand_words (default_operand to) = (codes "default=" ++ signed_decimal to) ∷ []
operand_words (low_operand key) = (codes "low=" ++ signed_decimal key) ∷ []
operand_words (high_operand key) = (codes "high=" ++ signed_decimal key) ∷ []
operand_words (count_operand count) = []
operand_words (key_operand key to) = (signed_decimal key ++ codes ":" ++ signed_decimal to) ∷ []

-- a signed number of four bytes
abbrev pub s4_bytes : ℤ → Bytes
s4_bytes number = u4 (cast_unsigned w32 number)

-- what spells an operand of an instruction at an offset
abbrev pub operand_bytes : ℕ → Operand → Bytes
operand_bytes at (u1_operand number) = number ∷ []
operand_bytes at (u2_operand number) = u2 number
operand_bytes at (s1_operand number) = cast_unsigned w8 number ∷ []
operand_bytes at (s2_operand number) = u2 (cast_unsigned w16 number)
operand_bytes at zero_operand = 0 ∷ []
operand_bytes at (jump2_operand to) = u2 (cast_unsigned w16 (to -ℤ pos at))
operand_bytes at (jump4_operand to) = s4_bytes (to -ℤ pos at)
operand_bytes at (pad_operand bytes) = bytes
operand_bytes at (default_operand to) = s4_bytes (to -ℤ pos at)
operand_bytes at (low_operand key) = s4_bytes key
operand_bytes at (high_operand key) = s4_bytes key
operand_bytes at (count_operand count) = u4 count
operand_bytes at (key_operand key to) = s4_bytes key ++ s4_bytes (to -ℤ pos at)

-- ---- the operands of an instruction

-- the target of a jump of four bytes, whose offset stands at a place
abbrev pub far_target : ℕ → Bytes → ℕ → ℤ
far_target at bytes from = pos at +ℤ s4_in bytes from

-- so many targets of a tableswitch, from a place on
abbrev pub listed_targets : ℕ → Bytes → ℕ → ℕ → List Operand
listed_targets at bytes from zero = []
listed_targets at bytes from (suc count) =
    jump4_operand (far_target at bytes from) ∷ listed_targets at bytes (from + 4) count

-- so many keys of a lookupswitch, with their targets
abbrev pub listed_keys : ℕ → Bytes → ℕ → ℕ → List Operand
listed_keys at bytes from zero = []
listed_keys at bytes from (suc count) =
    key_operand (s4_in bytes from) (far_target at bytes (from + 4))
    ∷ listed_keys at bytes (from + 8) count

-- the pad bytes of a switch, and its default target
abbrev pub switch_operands : ℕ → Bytes → List Operand
switch_operands at bytes =
    pad_operand (take (pad_of at) (drop 1 bytes))
    ∷ default_operand (far_target at bytes (1 + pad_of at))
    ∷ []

-- those of a tableswitch (6.5.tableswitch)
abbrev pub table_operands : ℕ → Bytes → List Operand
table_operands at bytes =
    let start = 1 + pad_of at in
    let low = s4_in bytes (start + 4) in
    let high = s4_in bytes (start + 8) in
    switch_operands at bytes
    ++ low_operand low ∷ high_operand high ∷ listed_targets at bytes (start + 12) (span low high)

-- those of a lookupswitch (6.5.lookupswitch)
abbrev pub lookup_operands : ℕ → Bytes → List Operand
lookup_operands at bytes =
    let start = 1 + pad_of at in
    let count = u4_in bytes (start + 4) in
    switch_operands at bytes ++ count_operand count ∷ listed_keys at bytes (start + 8) count

-- those behind a wide, whose opcode is the second byte (6.5.wide)
abbrev pub widened_operands : Bytes → List Operand
widened_operands bytes =
    u2_operand (u2_in bytes 2)
    ∷ (if u1_in bytes 1 == IINC then s2_operand (s2_in bytes 4) ∷ [] else [])

-- The operands in order, by what the table of instructions has behind the opcode, which is the first byte.
abbrev pub listed_operands : ℕ → Bytes → Operands → List Operand
listed_operands at bytes (Alone instr) = []
listed_operands at bytes (U1 makes) = u1_operand (u1_in bytes 1) ∷ []
listed_operands at bytes (U2 makes) = u2_operand (u2_in bytes 1) ∷ []
listed_operands at bytes (S1 makes) = s1_operand (s1_in bytes 1) ∷ []
listed_operands at bytes (S2 makes) = s2_operand (s2_in bytes 1) ∷ []
listed_operands at bytes (U1S1 makes) =
    u1_operand (u1_in bytes 1) ∷ s1_operand (s1_in bytes 2) ∷ []
listed_operands at bytes ArrayCode = u1_operand (u1_in bytes 1) ∷ []
listed_operands at bytes Dimensions =
    u2_operand (u2_in bytes 1) ∷ u1_operand (u1_in bytes 3) ∷ []
listed_operands at bytes (U2U1Zero makes) =
    u2_operand (u2_in bytes 1) ∷ u1_operand (u1_in bytes 3) ∷ zero_operand ∷ []
listed_operands at bytes (U2ZeroZero makes) =
    u2_operand (u2_in bytes 1) ∷ zero_operand ∷ zero_operand ∷ []
listed_operands at bytes (Jump2 makes) = jump2_operand (pos at +ℤ s2_in bytes 1) ∷ []
listed_operands at bytes (Jump4 makes) = jump4_operand (far_target at bytes 1) ∷ []
listed_operands at bytes TableSwitch = table_operands at bytes
listed_operands at bytes LookupSwitch = lookup_operands at bytes
listed_operands at bytes Wide = widened_operands bytes

-- ---- instructions

-- an opcode, which may stand behind a wide, and its operands
pub data Operation : Type 0 where
  plain_operation : ℕ → List Operand → Operation
  wide_operation : ℕ → List Operand → Operation

abbrev pub operation_words : Operation → List Word
operation_words (plain_operation opcode operands) =
    mnemonic opcode ∷ flat_map operand_words operands
operation_words (wide_operation opcode operands) =
    (codes "wide_" ++ mnemonic opcode) ∷ flat_map operand_words operands

abbrev pub operation_bytes : ℕ → Operation → Bytes
operation_bytes at (plain_operation opcode operands) =
    opcode ∷ flat_map (operand_bytes at) operands
operation_bytes at (wide_operation opcode operands) =
    WIDE ∷ opcode ∷ flat_map (operand_bytes at) operands

-- those of an opcode, by what the table of instructions has behind it
abbrev pub operands_at : ℕ → Bytes → Option Operands → List Operand
operands_at at bytes None = []
operands_at at bytes (Some operands) = listed_operands at bytes operands

-- The instruction at an offset of a code, whose bytes from there on these are: the opcode behind a wide is the second of them.
abbrev pub operation_at : ℕ → Bytes → Operation
operation_at at bytes =
    let opcode = u1_in bytes 0 in
    if opcode == WIDE then wide_operation (u1_in bytes 1) (widened_operands bytes)
    else plain_operation opcode (operands_at at bytes (operands_in rows opcode))
