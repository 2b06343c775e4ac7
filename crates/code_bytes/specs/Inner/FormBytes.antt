-- The bytes of a form of the code, whose numbers are big-endian.
use Rattle.std.specs.Prelude.{ℕ, ◌-◌, ◌≤◌, ℤ, pos, ◌+ℤ◌, List, [], ◌∷◌, ◌++◌, length, FitsSigned}
use Rattle.std.specs.Int.{w32}
use Rattle.class_model.specs.Spelling.{u2, u4}
use Rattle.class_model.specs.declared.opcodes.TheConstants.{WIDE}
use Rattle.code_bytes.specs.Forms.{table_bytes, lookup_bytes}
use Rattle.code_bytes.specs.Numbers.{FitsKeys}
use Rattle.code_bytes.specs.declared.forms.Form.{Form}
use Rattle.code_bytes.specs.declared.forms.Form.TheVariants.{Alone, U1, U1U1, U2, U2U1, U2U1Zero, U4, WideU2, WideU2U2, Table, Lookup}

abbrev pub form_bytes : Form → List ℕ
form_bytes (Alone opcode) = opcode ∷ []
form_bytes (U1 opcode a) = opcode ∷ a ∷ []
form_bytes (U1U1 opcode a b) = opcode ∷ a ∷ b ∷ []
form_bytes (U2 opcode a) = opcode ∷ u2 a
form_bytes (U2U1 opcode a b) = opcode ∷ (u2 a ++ b ∷ [])
form_bytes (U2U1Zero opcode a b) = opcode ∷ (u2 a ++ b ∷ 0 ∷ [])
form_bytes (U4 opcode a) = opcode ∷ u4 a
form_bytes (WideU2 opcode a) = WIDE ∷ opcode ∷ u2 a
form_bytes (WideU2U2 opcode a b) = WIDE ∷ opcode ∷ (u2 a ++ u2 b)
form_bytes (Table at low other to) = table_bytes at low other to.now
form_bytes (Lookup at other pairs) = lookup_bytes at other pairs.now

-- a tableswitch has a key for each target
abbrev pub FitsTable : ℤ → List ℕ → Type 0
FitsTable low to =
    (1 ≤ length to) × (length to ≤ 65535) × FitsSigned w32 (low +ℤ pos (length to - 1))

-- the targets of a switch fit their count
abbrev pub FitsCount : Form → Type 0
FitsCount (Table at low other to) = FitsTable low to.now
FitsCount (Lookup at other pairs) = length pairs.now ≤ 65535
FitsCount form = Unit {0}

-- the keys of a form have 32 bits
abbrev pub HasKeys : Form → Type 0
HasKeys (Lookup at other pairs) = FitsKeys pairs.now
HasKeys form = Unit {0}
