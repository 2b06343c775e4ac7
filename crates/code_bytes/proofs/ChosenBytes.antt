-- What is written of an instruction is its chosen spelling, of which there is one.
use Rattle.std.proofs.Common.{◌≡◌, ℕ, suc, ◌≤◌, List, [], ◌∷◌, length, replicate, Option, Some, None, Ok, inl, inr, refl, sym, ap, ◌∙◌, arith, append-nil}
use Rattle.std.proofs.lemmas.List.{take_at, length-replicate}
use Rattle.class_model.specs.Cutting.{IsBytes}
use Rattle.class_model.specs.Instructions.{Operands, rows, operands_in, with_operands, instr_at, pad_of, IsSpelling}
use Rattle.class_model.specs.Laws.Cuts.{u1_front}
use Rattle.class_model.specs.declared.instr.Instr.{Instr}
use Rattle.class_model.specs.declared.instr.Instr.TheVariants.{Nop, Table, Lookup}
use Rattle.code_bytes.specs.Encoding.{HasSpelling, HasZeroPad, IsChosen}
use Rattle.code_bytes.specs.Forms.{instr_bytes}
use Rattle.code_bytes.specs.Numbers.{HasNumbers}
use Rattle.code_bytes.proofs.ReadForms.{reads_all}
use Rattle.code_bytes.proofs.Sized.{ok_parts}
use Rattle.code_bytes.proofs.SpelledInstructions.{spells_instr}
use Rattle.code_bytes.proofs.TableOutcomes.{Written, outcome}

outcome_found : (at opcode : ℕ) (tail : List ℕ) (instr : Instr) (found : Option Operands) → IsBytes tail → operands_in rows opcode ≡ found → with_operands at (opcode ∷ tail) found ≡ Ok (instr, suc (length tail)) → Written at instr (opcode ∷ tail)
outcome_found at opcode tail instr None small is e = absurd (cc)
outcome_found at opcode tail instr (Some operands) small is e = outcome at opcode operands tail instr is (reads_all at opcode operands tail instr small e)

-- bytes that spell an instruction are the written ones, or there are more of them
spelled_outcome : (at : ℕ) (instr : Instr) (bytes : List ℕ) → IsBytes bytes → IsSpelling at instr bytes → Written at instr bytes
unfolding instr_at
spelled_outcome at instr [] small spelled =
    let parts = ok_parts (Nop, 1) (instr, 0) (Ok (Nop, 1)) refl (spelled []) in absurd (omega (arith, parts.1))
spelled_outcome at instr (opcode ∷ tail) small spelled =
    let whole : instr_at at (opcode ∷ tail) ≡ Ok (instr, suc (length tail)) = ap (λ t. instr_at at (opcode ∷ t)) (sym (append-nil tail)) ∙ spelled [] in
    let by_opcode = ap (λ o. with_operands at (opcode ∷ tail) (operands_in rows o)) (sym (u1_front opcode tail)) ∙ whole in
    outcome_found at opcode tail instr _ small.1 refl by_opcode

least_written : (at : ℕ) (instr : Instr) (other : List ℕ) → IsBytes other → IsSpelling at instr other → length (instr_bytes at instr) ≤ length other
least_written at instr other small spelled =
    elim (spelled_outcome at instr other small spelled) [ inl same ↦ omega (arith, same.long) | inr longer ↦ omega (arith, longer.longer) ]

zero_pad : (at : ℕ) (instr : Instr) → HasZeroPad at instr (instr_bytes at instr)
unfolding instr_bytes
zero_pad at (Table low other to) = take_at (replicate (pad_of at) 0) _ (pad_of at) (length-replicate {A = ℕ} (pad_of at) 0)
zero_pad at (Lookup other pairs) = take_at (replicate (pad_of at) 0) _ (pad_of at) (length-replicate {A = ℕ} (pad_of at) 0)
zero_pad at instr = tt

pub written_chosen : (at : ℕ) (instr : Instr) → HasSpelling at instr → HasNumbers instr → IsChosen at instr (instr_bytes at instr)
written_chosen at instr has fits = record {
  shortest = record { spells = spells_instr at instr has fits; least = least_written at instr };
  pad = zero_pad at instr;
}

-- bytes that are chosen are the written ones
pub chosen_written : (at : ℕ) (instr : Instr) (bytes : List ℕ) → IsBytes bytes → IsChosen at instr bytes → bytes ≡ instr_bytes at instr
chosen_written at instr bytes small chosen =
    elim (spelled_outcome at instr bytes small chosen.shortest.spells) [
      | inl same ↦ same.is chosen.pad
      | inr longer ↦ absurd (omega (arith, longer.longer, chosen.shortest.least _ longer.are_bytes longer.spells))
    ]

pub one_chosen : (at : ℕ) (instr : Instr) (one other : List ℕ) → IsBytes one → IsBytes other → IsChosen at instr one → IsChosen at instr other → one ≡ other
one_chosen at instr one other one_small other_small one_is other_is =
    chosen_written at instr one one_small one_is ∙ sym (chosen_written at instr other other_small other_is)
