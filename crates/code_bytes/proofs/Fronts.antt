-- Numbers at the front of bytes, and behind some.
use Rattle.std.proofs.Common.{◌≡◌, ℕ, suc, List, ◌∷◌, ◌++◌, length, Some, Ok}
use Rattle.std.proofs.lemmas.List.{drop_at}
use Rattle.std.proofs.lemmas.Nat.{from_be_bytes-to_be_bytes_4}
use Rattle.class_model.specs.Spelling.{u4}
use Rattle.class_model.specs.Instructions.{Operands, u4_in, with_operands}
use Rattle.class_model.specs.declared.instr.Instr.{Instr}
use Rattle.code_bytes.specs.Spellings.{IsU4}

pub u4_front : (number : ℕ) (rest : List ℕ) → IsU4 number → u4_in (u4 number ++ rest) 0 ≡ number
u4_front number rest fits = from_be_bytes-to_be_bytes_4 number fits

-- a number of four bytes behind some
pub u4_behind : (front : List ℕ) (place number : ℕ) (rest : List ℕ) → length front ≡ place → IsU4 number → u4_in (front ++ (u4 number ++ rest)) place ≡ number
u4_behind front place number rest long fits = rw drop_at (u4_front number rest fits)

-- what is read of an opcode and operands, whatever follows
abbrev pub GivesBack : ℕ → Operands → List ℕ → Instr → Type 0
GivesBack at operands tail instr = (opcode : ℕ) (rest : List ℕ) → with_operands at (opcode ∷ (tail ++ rest)) (Some operands) ≡ Ok (instr, suc (length tail))
