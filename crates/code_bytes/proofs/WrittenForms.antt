-- Operands that are written are read again.
use Rattle.std.proofs.Common.{◌≡◌, ℕ, List, ◌∷◌, ◌++◌, length, Some, Ok, inl, inr, w8, w16, refl, ap, ◌∙◌, arith}
use Rattle.std.proofs.lemmas.Bool.{le-ltb}
use Rattle.std.specs.Prelude.{ℤ}
use Rattle.std.specs.Int.{cast_signed}
use Rattle.class_model.specs.Checks.{fault}
use Rattle.class_model.specs.Laws.Cuts.{u1_front, u2_front}
use Rattle.class_model.specs.declared.fault.FileRule.TheVariants as rules
use Rattle.class_model.specs.Spelling.{u2, u4}
use Rattle.class_model.specs.Instructions.{Operands, Alone, U1, U2, S1, S2, U1S1, ArrayCode, Dimensions, U2U1Zero, U2ZeroZero, Jump2, Jump4, TableSwitch, LookupSwitch, Wide, rows, operands_in, wide_rows, u1_in, u2_in, wide_operands, with_operands, IsSpelling, instr_at, is_array_code, has_dimensions, target_of}
use Rattle.class_model.specs.declared.instr.Instr.{Instr}
use Rattle.class_model.specs.declared.instr.Instr.TheVariants.{Iinc, NewArray, NewMulti}
use Rattle.code_bytes.proofs.Sized.{no_fault, sized_long, sized_if_long}
use Rattle.code_bytes.proofs.Fronts.{u4_front, GivesBack}
use Rattle.code_bytes.proofs.WrittenSwitches.{gives_table, gives_lookup}
use Rattle.code_bytes.specs.Spellings.{ReadsWide, ReadsWideIinc, Reads, to_of}

pub at_opcode : (at opcode : ℕ) (operands : Operands) (tail : List ℕ) → operands_in rows opcode ≡ Some operands → instr_at at (opcode ∷ tail) ≡ with_operands at (opcode ∷ tail) (Some operands)
unfolding instr_at
at_opcode at opcode operands tail found =
    ap (λ o. with_operands at (opcode ∷ tail) (operands_in rows o)) (u1_front opcode tail) ∙ ap (with_operands at (opcode ∷ tail)) found

gives_alone : (at : ℕ) (made : Instr) (tail : List ℕ) (instr : Instr) → Reads at (Alone made) tail instr → GivesBack at (Alone made) tail instr
gives_alone at made tail instr r opcode rest = rw (r.0, r.1)

gives_u1 : (at : ℕ) (makes : ℕ → Instr) (tail : List ℕ) (instr : Instr) → Reads at (U1 makes) tail instr → GivesBack at (U1 makes) tail instr
gives_u1 at makes tail instr r opcode rest =
    rw (r.tail_is, r.instr_is) (sized_long at (opcode ∷ r.number ∷ rest) 2 _ (omega arith) ∙ ap (λ n. Ok (makes n, 2)) (u1_front r.number rest))

gives_array_code : (at : ℕ) (tail : List ℕ) (instr : Instr) → Reads at ArrayCode tail instr → GivesBack at ArrayCode tail instr
gives_array_code at tail instr r opcode rest =
    let number = u1_front r.number rest in
    let allowed = ap is_array_code number ∙ r.fits.1 in
    rw (r.tail_is, r.instr_is) (sized_if_long _ at (opcode ∷ r.number ∷ rest) 2 _ allowed (omega arith) ∙ ap (λ n. Ok (NewArray n, 2)) number)

gives_u2 : (at : ℕ) (makes : ℕ → Instr) (tail : List ℕ) (instr : Instr) → Reads at (U2 makes) tail instr → GivesBack at (U2 makes) tail instr
gives_u2 at makes tail instr r opcode rest =
    rw (r.tail_is, r.instr_is) (sized_long at (opcode ∷ (u2 r.number ++ rest)) 3 _ (omega arith) ∙ ap (λ n. Ok (makes n, 3)) (u2_front r.number rest r.fits))

gives_s1 : (at : ℕ) (makes : ℤ → Instr) (tail : List ℕ) (instr : Instr) → Reads at (S1 makes) tail instr → GivesBack at (S1 makes) tail instr
gives_s1 at makes tail instr r opcode rest =
    rw (r.tail_is, r.instr_is) (sized_long at (opcode ∷ r.number ∷ rest) 2 _ (omega arith) ∙ ap (λ n. Ok (makes (cast_signed w8 n), 2)) (u1_front r.number rest))

gives_s2 : (at : ℕ) (makes : ℤ → Instr) (tail : List ℕ) (instr : Instr) → Reads at (S2 makes) tail instr → GivesBack at (S2 makes) tail instr
gives_s2 at makes tail instr r opcode rest =
    rw (r.tail_is, r.instr_is) (sized_long at (opcode ∷ (u2 r.number ++ rest)) 3 _ (omega arith) ∙ ap (λ n. Ok (makes (cast_signed w16 n), 3)) (u2_front r.number rest r.fits))

gives_u1s1 : (at : ℕ) (makes : ℕ → ℤ → Instr) (tail : List ℕ) (instr : Instr) → Reads at (U1S1 makes) tail instr → GivesBack at (U1S1 makes) tail instr
gives_u1s1 at makes tail instr r opcode rest =
    let first = u1_front r.first (r.second ∷ rest) in
    let second = u1_front r.second rest in
    rw (r.tail_is, r.instr_is) (sized_long at (opcode ∷ r.first ∷ r.second ∷ rest) 3 _ (omega arith)
    ∙ ap (λ n. Ok (makes n (cast_signed w8 (u1_in (r.second ∷ rest) 0)), 3)) first
    ∙ ap (λ m. Ok (makes r.first (cast_signed w8 m), 3)) second)

gives_dimensions : (at : ℕ) (tail : List ℕ) (instr : Instr) → Reads at Dimensions tail instr → GivesBack at Dimensions tail instr
gives_dimensions at tail instr r opcode rest =
    let first = u2_front r.first (r.second ∷ rest) r.fits.0 in
    let second = u1_front r.second rest in
    let made = ap (λ n. NewMulti n (u1_in (r.second ∷ rest) 0)) first ∙ ap (NewMulti r.first) second in
    rw (r.tail_is, r.instr_is) (sized_if_long _ at (opcode ∷ (u2 r.first ++ r.second ∷ rest)) 4 _ (ap has_dimensions second ∙ r.fits.2) (omega arith) ∙ ap (λ i. Ok (i, 4)) made)

gives_u2u1_zero : (at : ℕ) (makes : ℕ → ℕ → Instr) (tail : List ℕ) (instr : Instr) → Reads at (U2U1Zero makes) tail instr → GivesBack at (U2U1Zero makes) tail instr
gives_u2u1_zero at makes tail instr r opcode rest =
    let first = u2_front r.first (r.second ∷ 0 ∷ rest) r.fits.0 in
    let second = u1_front r.second (0 ∷ rest) in
    let made = ap (λ n. makes n (u1_in (r.second ∷ 0 ∷ rest) 0)) first ∙ ap (makes r.first) second in
    rw (r.tail_is, r.instr_is) (sized_if_long _ at (opcode ∷ (u2 r.first ++ r.second ∷ 0 ∷ rest)) 5 _ refl (omega arith) ∙ ap (λ i. Ok (i, 5)) made)

gives_u2_zero_zero : (at : ℕ) (makes : ℕ → Instr) (tail : List ℕ) (instr : Instr) → Reads at (U2ZeroZero makes) tail instr → GivesBack at (U2ZeroZero makes) tail instr
gives_u2_zero_zero at makes tail instr r opcode rest =
    rw (r.tail_is, r.instr_is) (sized_if_long _ at (opcode ∷ (u2 r.number ++ 0 ∷ 0 ∷ rest)) 5 _ refl (omega arith) ∙ ap (λ n. Ok (makes n, 5)) (u2_front r.number (0 ∷ 0 ∷ rest) r.fits))

gives_jump2 : (at : ℕ) (makes : ℕ → Instr) (tail : List ℕ) (instr : Instr) → Reads at (Jump2 makes) tail instr → GivesBack at (Jump2 makes) tail instr
gives_jump2 at makes tail instr r opcode rest =
    rw (r.tail_is, r.instr_is) (sized_long at (opcode ∷ (u2 r.number ++ rest)) 3 _ (omega arith) ∙ ap (λ n. Ok (makes (target_of at (cast_signed w16 n)), 3)) (u2_front r.number rest r.fits))

gives_jump4 : (at : ℕ) (makes : ℕ → Instr) (tail : List ℕ) (instr : Instr) → Reads at (Jump4 makes) tail instr → GivesBack at (Jump4 makes) tail instr
gives_jump4 at makes tail instr r opcode rest =
    rw (r.tail_is, r.instr_is) (sized_long at (opcode ∷ (u4 r.number ++ rest)) 5 _ (omega arith) ∙ ap (λ n. Ok (makes (to_of at n), 5)) (u4_front r.number rest r.fits))

gives_wide : (at : ℕ) (tail : List ℕ) (instr : Instr) → ReadsWide tail instr → GivesBack at Wide tail instr
gives_wide at tail instr r opcode rest =
    let behind = opcode ∷ r.opcode ∷ (u2 r.index ++ rest) in
    let found = ap (operands_in wide_rows) (u1_front r.opcode (u2 r.index ++ rest)) ∙ r.found in
    let long = le-ltb (length behind) 2 (omega arith) in
    rw (r.tail_is, r.instr_is) (no_fault _ (fault at rules.Operand) (wide_operands at behind (operands_in wide_rows (u1_in behind 1))) long ∙ ap (wide_operands at behind) found ∙ sized_long at behind 4 _ (omega arith) ∙ ap (λ n. Ok (r.makes n, 4)) (u2_front r.index rest r.index_fits))

gives_wide_iinc : (at : ℕ) (tail : List ℕ) (instr : Instr) → ReadsWideIinc tail instr → GivesBack at Wide tail instr
gives_wide_iinc at tail instr r opcode rest =
    let behind = opcode ∷ 132 ∷ (u2 r.index ++ (u2 r.bits ++ rest)) in
    let long = le-ltb (length behind) 2 (omega arith) in
    rw (r.tail_is, r.instr_is) (no_fault _ (fault at rules.Operand) (wide_operands at behind (operands_in wide_rows (u1_in behind 1))) long
    ∙ sized_long at behind 6 _ (omega arith)
    ∙ ap (λ n. Ok (Iinc n (cast_signed w16 (u2_in (u2 r.bits ++ rest) 0)), 6)) (u2_front r.index (u2 r.bits ++ rest) r.index_fits)
    ∙ ap (λ m. Ok (Iinc r.index (cast_signed w16 m), 6)) (u2_front r.bits rest r.bits_fit))

pub gives_back : (at : ℕ) (operands : Operands) (tail : List ℕ) (instr : Instr) → Reads at operands tail instr → GivesBack at operands tail instr
gives_back at (Alone made) tail instr r = gives_alone at made tail instr r
gives_back at (U1 makes) tail instr r = gives_u1 at makes tail instr r
gives_back at (U2 makes) tail instr r = gives_u2 at makes tail instr r
gives_back at (S1 makes) tail instr r = gives_s1 at makes tail instr r
gives_back at (S2 makes) tail instr r = gives_s2 at makes tail instr r
gives_back at (U1S1 makes) tail instr r = gives_u1s1 at makes tail instr r
gives_back at ArrayCode tail instr r = gives_array_code at tail instr r
gives_back at Dimensions tail instr r = gives_dimensions at tail instr r
gives_back at (U2U1Zero makes) tail instr r = gives_u2u1_zero at makes tail instr r
gives_back at (U2ZeroZero makes) tail instr r = gives_u2_zero_zero at makes tail instr r
gives_back at (Jump2 makes) tail instr r = gives_jump2 at makes tail instr r
gives_back at (Jump4 makes) tail instr r = gives_jump4 at makes tail instr r
gives_back at TableSwitch tail instr r = gives_table at tail instr r
gives_back at LookupSwitch tail instr r = gives_lookup at tail instr r
gives_back at Wide tail instr (inl r) = gives_wide at tail instr r
gives_back at Wide tail instr (inr r) = gives_wide_iinc at tail instr r

-- an opcode and operands that are read spell the instruction that they make
pub spells_read : (at opcode : ℕ) (operands : Operands) (tail : List ℕ) (instr : Instr) → operands_in rows opcode ≡ Some operands → Reads at operands tail instr → IsSpelling at instr (opcode ∷ tail)
spells_read at opcode operands tail instr found r rest = at_opcode at opcode operands (tail ++ rest) found ∙ gives_back at operands tail instr r opcode rest
