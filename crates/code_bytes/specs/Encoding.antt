-- The spelling that is written of an instruction (JVM Specification SE 8, 6.5): the shortest of all.
use Rattle.std.specs.Prelude.{◌≡◌, ◌⊎◌, ℕ, ◌-◌, ◌^◌, ◌<◌, ◌≤◌, pos, ◌+ℤ◌, ◌-ℤ◌, List, length, take, drop, replicate, IsTrue, FitsSigned, Some}
use Rattle.std.specs.Int.{w16, w32}
use Rattle.std.specs.List.{AllByRecursion}
use Rattle.class_model.specs.Cutting.{IsBytes}
use Rattle.class_model.specs.Instructions.{IsSpelling, Operands, Alone, U2, U2U1Zero, Jump2, rows, operands_in, keys_increase, pad_of, targets}
use Rattle.class_model.specs.declared.array_codes.TheConstants.{T_BOOLEAN, T_LONG}
use Rattle.class_model.specs.declared.instr.Imm.{Imm}
use Rattle.class_model.specs.declared.instr.Imm.TheVariants as imms
use Rattle.class_model.specs.declared.instr.Instr.{Instr}
use Rattle.class_model.specs.declared.instr.Instr.TheVariants.{Const, ArrayLoad, ArrayStore, Shuffle, Pure, Divide, FloatAsk, If, If2, IfSame, IfNull, Table, Lookup, Invoke, NewArray, NewMulti}

-- ---- which instructions have a spelling

-- the table of instructions has these operands behind an opcode
abbrev pub OpcodeTakes : ℕ → Operands → Type 0
OpcodeTakes opcode operands = operands_in rows opcode ≡ Some operands

-- what an instruction without operands, or with a small number, pushes
abbrev pub IsPushed : Imm → Type 0
IsPushed imms.Null = Unit {0}
IsPushed (imms.Int number) = FitsSigned w16 number
IsPushed (imms.Long number) = (number ≡ pos 0) ⊎ (number ≡ pos 1)
IsPushed (imms.Float bits) = (bits ≡ 0) ⊎ ((bits ≡ 0x3F800000) ⊎ (bits ≡ 0x40000000))
IsPushed (imms.Double bits) = (bits ≡ 0) ⊎ (bits ≡ 0x3FF0000000000000)

-- a place or target is a number of 31 bits
abbrev pub IsPlace : ℕ → Type 0
IsPlace place = place < 2 ^ 31

-- a jump of 16 bits reaches its target
abbrev pub Reaches : ℕ → ℕ → Type 0
Reaches at to = FitsSigned w16 (pos to -ℤ pos at)

-- Its opcode, count, code and numbers are of its form, and its targets can be reached.
abbrev pub FitsForm : ℕ → Instr → Type 0
FitsForm at (Const value) = IsPushed value
FitsForm at (ArrayLoad opcode) = OpcodeTakes opcode (Alone (ArrayLoad opcode))
FitsForm at (ArrayStore opcode) = OpcodeTakes opcode (Alone (ArrayStore opcode))
FitsForm at (Shuffle opcode) = OpcodeTakes opcode (Alone (Shuffle opcode))
FitsForm at (Pure opcode) = OpcodeTakes opcode (Alone (Pure opcode))
FitsForm at (Divide opcode) = OpcodeTakes opcode (Alone (Divide opcode))
FitsForm at (FloatAsk opcode) = OpcodeTakes opcode (Alone (FloatAsk opcode))
FitsForm at (If opcode to) = OpcodeTakes opcode (Jump2 (If opcode)) × Reaches at to
FitsForm at (If2 opcode to) = OpcodeTakes opcode (Jump2 (If2 opcode)) × Reaches at to
FitsForm at (IfSame opcode to) = OpcodeTakes opcode (Jump2 (IfSame opcode)) × Reaches at to
FitsForm at (IfNull opcode to) = OpcodeTakes opcode (Jump2 (IfNull opcode)) × Reaches at to
FitsForm at (Table low other to) =
    (1 ≤ length to) × (length to ≤ 65535) × FitsSigned w32 (low +ℤ pos (length to - 1))
FitsForm at (Lookup other pairs) = (length pairs ≤ 65535) × IsTrue (keys_increase pairs)
FitsForm at (Invoke opcode method count) =
    (OpcodeTakes opcode (U2 (λ m. Invoke opcode m 0)) × (count ≡ 0))
    ⊎ OpcodeTakes opcode (U2U1Zero (Invoke opcode))
FitsForm at (NewArray code) = (T_BOOLEAN ≤ code) × (code ≤ T_LONG)
FitsForm at (NewMulti class dimensions) = 1 ≤ dimensions
FitsForm at instr = Unit {0}

-- An instruction has a spelling at an offset.
pub record HasSpelling (at : ℕ) (instr : Instr) : Type 0 where
  pub place : IsPlace at
  pub targets : AllByRecursion IsPlace (targets instr)
  pub form : FitsForm at instr

-- ---- the spelling that is written

-- no bytes that spell it are fewer
pub record IsShortest (at : ℕ) (instr : Instr) (bytes : List ℕ) : Type 0 where
  pub spells : IsSpelling at instr bytes
  pub least : (other : List ℕ)
      → IsBytes other
      → IsSpelling at instr other
      → length bytes ≤ length other

-- the pad bytes of a switch are zero
abbrev pub HasZeroPad : ℕ → Instr → List ℕ → Type 0
HasZeroPad at (Table low other to) bytes = take (pad_of at) (drop 1 bytes) ≡ replicate (pad_of at) 0
HasZeroPad at (Lookup other pairs) bytes = take (pad_of at) (drop 1 bytes) ≡ replicate (pad_of at) 0
HasZeroPad at instr bytes = Unit {0}

-- the shortest spelling, with zeros for pad bytes
pub record IsChosen (at : ℕ) (instr : Instr) (bytes : List ℕ) : Type 0 where
  pub shortest : IsShortest at instr bytes
  pub pad : HasZeroPad at instr bytes
