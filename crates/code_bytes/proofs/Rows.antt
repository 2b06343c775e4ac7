-- The tests of an opcode find its row in the table of instructions.
use Rattle.std.proofs.Common.{◌≡◌, ℕ, ◌<◌, map, List, [], ◌∷◌, length, get_or, Option, None, refl, sym, ap, ◌∙◌, arith}
use Rattle.std.specs.List.{range_with_len}
use Rattle.std.proofs.lemmas.List.FromFn.{get_or-map-range_with_len}
use Rattle.class_model.specs.Instructions.{Operands, rows, operands_in, with_operands, instr_at, u1_in}
use Rattle.code_bytes.specs.Inner.Opcodes.{layout_of, operands_of}
use Rattle.code_bytes.specs.declared.layouts.Layout.{Layout}

-- they agree at each byte
same_table : map (operands_in rows) (range_with_len 0 256) ≡ map (λ o. operands_of (layout_of o) o) (range_with_len 0 256)
unfolding layout_of
same_table = refl

same_row : (o : ℕ) → o < 256 → operands_in rows o ≡ operands_of (layout_of o) o
same_row o below =
    sym (get_or-map-range_with_len (operands_in rows) 0 256 o o None below (omega arith))
    ∙ ap (λ (row : List (Option Operands)). get_or row o None) same_table
    ∙ get_or-map-range_with_len (λ o. operands_of (layout_of o) o) 0 256 o o None below (omega arith)

opcode_of : (bytes : List ℕ) → 0 < length bytes → u1_in bytes 0 ≡ get_or bytes 0 0
opcode_of [] some = absurd (omega (arith, some))
opcode_of (byte ∷ bytes) some = omega arith

-- what the instruction that begins bytes is read by
pub at_layout : (at : ℕ) (bytes : List ℕ) (layout : Option Layout) → 0 < length bytes → get_or bytes 0 0 < 256 → layout ≡ layout_of (get_or bytes 0 0) → instr_at at bytes ≡ with_operands at bytes (operands_of layout (get_or bytes 0 0))
unfolding instr_at
at_layout at bytes layout some below is =
    ap (λ (o : ℕ). with_operands at bytes (operands_in rows o)) (opcode_of bytes some)
    ∙ ap (with_operands at bytes) (same_row (get_or bytes 0 0) below ∙ ap (λ (l : Option Layout). operands_of l (get_or bytes 0 0)) (sym is))
