-- The spellings of an instruction are those of the table.
use Rattle.std.proofs.Common.{◌≡◌, ℕ, suc, List, [], ◌∷◌, length, Option, Some, None, Ok, refl, sym, ap, subst, ◌∙◌, arith, append-nil}
use Rattle.class_model.specs.Cutting.{IsBytes}
use Rattle.class_model.specs.Instructions.{Operands, rows, operands_in, with_operands, instr_at, IsSpelling}
use Rattle.class_model.specs.Laws.Cuts.{u1_front}
use Rattle.class_model.specs.declared.instr.Instr.{Instr}
use Rattle.class_model.specs.declared.instr.Instr.TheVariants.{Nop}
use Rattle.code_bytes.specs.Spellings.{SpellingOf}
use Rattle.code_bytes.proofs.ReadForms.{reads_all}
use Rattle.code_bytes.proofs.Sized.{ok_parts}
use Rattle.code_bytes.proofs.WrittenForms.{spells_read}

pub spelling_spells : (at : ℕ) (instr : Instr) (bytes : List ℕ) → SpellingOf at instr bytes → IsSpelling at instr bytes
spelling_spells at instr bytes s = subst (IsSpelling at instr) (sym s.is) (spells_read at s.opcode s.operands s.tail instr s.found s.reads)

read_spelling : (at opcode : ℕ) (tail : List ℕ) (instr : Instr) (found : Option Operands) → IsBytes tail → operands_in rows opcode ≡ found → with_operands at (opcode ∷ tail) found ≡ Ok (instr, suc (length tail)) → SpellingOf at instr (opcode ∷ tail)
read_spelling at opcode tail instr None small is e = absurd (cc)
read_spelling at opcode tail instr (Some operands) small is e =
    record { opcode = opcode; operands = operands; tail = tail; found = is; reads = reads_all at opcode operands tail instr small e; is = refl }

pub spelling_found : (at : ℕ) (instr : Instr) (bytes : List ℕ) → IsBytes bytes → IsSpelling at instr bytes → SpellingOf at instr bytes
unfolding instr_at
spelling_found at instr [] small spelled =
    let parts = ok_parts (Nop, 1) (instr, 0) (Ok (Nop, 1)) refl (spelled []) in absurd (omega (arith, parts.1))
spelling_found at instr (opcode ∷ tail) small spelled =
    let whole : instr_at at (opcode ∷ tail) ≡ Ok (instr, suc (length tail)) = ap (λ t. instr_at at (opcode ∷ t)) (sym (append-nil tail)) ∙ spelled [] in
    let by_opcode = ap (λ o. with_operands at (opcode ∷ tail) (operands_in rows o)) (sym (u1_front opcode tail)) ∙ whole in
    read_spelling at opcode tail instr _ small.1 refl by_opcode
