-- Bytes that are read are operands of some numbers.
use Rattle.std.proofs.Common.{◌≡◌, ℕ, suc, eqb, cond, List, [], ◌∷◌, ◌++◌, length, drop, Option, Some, Ok, Err, w8, w16, inl, inr, refl, sym, ap, ◌∙◌, arith, length-drop, drop-drop, ◌⊎◌}
use Rattle.std.specs.Prelude.{ℤ}
use Rattle.std.specs.Int.{cast_signed}
use Rattle.std.proofs.lemmas.Bool.{eqb-true}
use Rattle.class_model.specs.Checks.{fault}
use Rattle.class_model.specs.declared.fault.FileRule.TheVariants as rules
use Rattle.class_model.specs.Cutting.{IsBytes}
use Rattle.class_model.specs.Spelling.{u2}
use Rattle.class_model.specs.Instructions.{Operands, Alone, U1, U2, S1, S2, U1S1, ArrayCode, Dimensions, U2U1Zero, U2ZeroZero, Jump2, Jump4, TableSwitch, LookupSwitch, Wide, operands_in, wide_rows, u1_in, u2_in, u4_in, sized, wide_operands, with_operands, is_array_code, has_dimensions, target_of}
use Rattle.class_model.specs.declared.instr.Instr.{Instr}
use Rattle.class_model.specs.declared.instr.Instr.TheVariants.{Iinc, NewArray, NewMulti}
use Rattle.code_bytes.proofs.Cutoffs.{Cuts, cut_u1, cut_u2, cut_u4, no_more}
use Rattle.code_bytes.specs.Spellings.{ReadsWide, ReadsWideIinc, Reads, to_of}
use Rattle.code_bytes.proofs.ReadSwitches.{reads_table, reads_lookup}
use Rattle.code_bytes.proofs.Sized.{ok_parts, not_fault, not_other_fault, sized_is, sized_if_is}

-- all bytes behind an opcode are read as these operands of an instruction
abbrev pub IsWhole : ℕ → ℕ → Operands → List ℕ → Instr → Type 0
IsWhole at opcode operands tail instr = with_operands at (opcode ∷ tail) (Some operands) ≡ Ok (instr, suc (length tail))

one_number : (tail : List ℕ) (Fits : ℕ → Type 0) (spelling : ℕ → List ℕ) (number count : ℕ) → length tail ≡ count → Cuts Fits spelling number tail (drop count tail) → tail ≡ spelling number ++ []
one_number tail Fits spelling number count long cut =
    let none = no_more (drop count tail) (omega (arith, length-drop count tail)) in
    cut.is ∙ ap (λ others. spelling number ++ others) none

reads_alone : (at opcode : ℕ) (made : Instr) (tail : List ℕ) (instr : Instr) → IsBytes tail → IsWhole at opcode (Alone made) tail instr → Reads at (Alone made) tail instr
reads_alone at opcode made tail instr small e =
    let parts = ok_parts (made, 1) (instr, suc (length tail)) (Ok (made, 1)) refl e in
    (no_more tail (omega (arith, parts.1)), parts.0)

reads_u1 : (at opcode : ℕ) (makes : ℕ → Instr) (tail : List ℕ) (instr : Instr) → IsBytes tail → IsWhole at opcode (U1 makes) tail instr → Reads at (U1 makes) tail instr
reads_u1 at opcode makes tail instr small e =
    let number = u1_in tail 0 in
    let read = sized_is at (opcode ∷ tail) 2 (makes number) instr _ e in
    let long : length tail ≡ 1 = omega (arith, read.count_is) in
    let cut = cut_u1 tail (omega arith) small in
    record { number = number; fits = cut.fits; tail_is = one_number tail _ _ number 1 long cut; instr_is = read.made_is }

reads_array_code : (at opcode : ℕ) (tail : List ℕ) (instr : Instr) → IsBytes tail → IsWhole at opcode ArrayCode tail instr → Reads at ArrayCode tail instr
reads_array_code at opcode tail instr small e =
    let number = u1_in tail 0 in
    let read = sized_if_is (is_array_code number) at (opcode ∷ tail) 2 (NewArray number) instr _ e in
    let long : length tail ≡ 1 = omega (arith, read.1.count_is) in
    let cut = cut_u1 tail (omega arith) small in
    record { number = number; fits = (cut.fits, read.0); tail_is = one_number tail _ _ number 1 long cut; instr_is = read.1.made_is }

reads_u2 : (at opcode : ℕ) (makes : ℕ → Instr) (tail : List ℕ) (instr : Instr) → IsBytes tail → IsWhole at opcode (U2 makes) tail instr → Reads at (U2 makes) tail instr
reads_u2 at opcode makes tail instr small e =
    let number = u2_in tail 0 in
    let read = sized_is at (opcode ∷ tail) 3 (makes number) instr _ e in
    let long : length tail ≡ 2 = omega (arith, read.count_is) in
    let cut = cut_u2 tail (omega arith) small in
    record { number = number; fits = cut.fits; tail_is = one_number tail _ _ number 2 long cut; instr_is = read.made_is }

reads_s1 : (at opcode : ℕ) (makes : ℤ → Instr) (tail : List ℕ) (instr : Instr) → IsBytes tail → IsWhole at opcode (S1 makes) tail instr → Reads at (S1 makes) tail instr
reads_s1 at opcode makes tail instr small e =
    let number = u1_in tail 0 in
    let read = sized_is at (opcode ∷ tail) 2 (makes (cast_signed w8 number)) instr _ e in
    let long : length tail ≡ 1 = omega (arith, read.count_is) in
    let cut = cut_u1 tail (omega arith) small in
    record { number = number; fits = cut.fits; tail_is = one_number tail _ _ number 1 long cut; instr_is = read.made_is }

reads_s2 : (at opcode : ℕ) (makes : ℤ → Instr) (tail : List ℕ) (instr : Instr) → IsBytes tail → IsWhole at opcode (S2 makes) tail instr → Reads at (S2 makes) tail instr
reads_s2 at opcode makes tail instr small e =
    let number = u2_in tail 0 in
    let read = sized_is at (opcode ∷ tail) 3 (makes (cast_signed w16 number)) instr _ e in
    let long : length tail ≡ 2 = omega (arith, read.count_is) in
    let cut = cut_u2 tail (omega arith) small in
    record { number = number; fits = cut.fits; tail_is = one_number tail _ _ number 2 long cut; instr_is = read.made_is }

reads_jump2 : (at opcode : ℕ) (makes : ℕ → Instr) (tail : List ℕ) (instr : Instr) → IsBytes tail → IsWhole at opcode (Jump2 makes) tail instr → Reads at (Jump2 makes) tail instr
reads_jump2 at opcode makes tail instr small e =
    let number = u2_in tail 0 in
    let read = sized_is at (opcode ∷ tail) 3 (makes (target_of at (cast_signed w16 number))) instr _ e in
    let long : length tail ≡ 2 = omega (arith, read.count_is) in
    let cut = cut_u2 tail (omega arith) small in
    record { number = number; fits = cut.fits; tail_is = one_number tail _ _ number 2 long cut; instr_is = read.made_is }

reads_jump4 : (at opcode : ℕ) (makes : ℕ → Instr) (tail : List ℕ) (instr : Instr) → IsBytes tail → IsWhole at opcode (Jump4 makes) tail instr → Reads at (Jump4 makes) tail instr
reads_jump4 at opcode makes tail instr small e =
    let number = u4_in tail 0 in
    let read = sized_is at (opcode ∷ tail) 5 (makes (to_of at number)) instr _ e in
    let long : length tail ≡ 4 = omega (arith, read.count_is) in
    let cut = cut_u4 tail (omega arith) small in
    record { number = number; fits = cut.fits; tail_is = one_number tail _ _ number 4 long cut; instr_is = read.made_is }

reads_u1s1 : (at opcode : ℕ) (makes : ℕ → ℤ → Instr) (tail : List ℕ) (instr : Instr) → IsBytes tail → IsWhole at opcode (U1S1 makes) tail instr → Reads at (U1S1 makes) tail instr
reads_u1s1 at opcode makes tail instr small e =
    let first = u1_in tail 0 in
    let second = u1_in (drop 1 tail) 0 in
    let read = sized_is at (opcode ∷ tail) 3 (makes first (cast_signed w8 second)) instr _ e in
    let long : length tail ≡ 2 = omega (arith, read.count_is) in
    let cut = cut_u1 tail (omega arith) small in
    let rest : length (drop 1 tail) ≡ 1 = omega (arith, length-drop 1 tail) in
    let then = cut_u1 (drop 1 tail) (omega arith) cut.are_bytes in
    record {
      first = first;
      second = second;
      fits = (cut.fits, then.fits);
      tail_is = cut.is ∙ ap (λ others. first ∷ others) (one_number (drop 1 tail) _ _ second 1 rest then);
      instr_is = read.made_is;
    }

reads_dimensions : (at opcode : ℕ) (tail : List ℕ) (instr : Instr) → IsBytes tail → IsWhole at opcode Dimensions tail instr → Reads at Dimensions tail instr
reads_dimensions at opcode tail instr small e =
    let first = u2_in tail 0 in
    let second = u1_in (drop 2 tail) 0 in
    let read = sized_if_is (has_dimensions second) at (opcode ∷ tail) 4 (NewMulti first second) instr _ e in
    let long : length tail ≡ 3 = omega (arith, read.1.count_is) in
    let cut = cut_u2 tail (omega arith) small in
    let rest : length (drop 2 tail) ≡ 1 = omega (arith, length-drop 2 tail) in
    let then = cut_u1 (drop 2 tail) (omega arith) cut.are_bytes in
    record {
      first = first;
      second = second;
      fits = (cut.fits, then.fits, read.0);
      tail_is = cut.is ∙ ap (λ others. u2 first ++ others) (one_number (drop 2 tail) _ _ second 1 rest then);
      instr_is = read.1.made_is;
    }

reads_u2u1_zero : (at opcode : ℕ) (makes : ℕ → ℕ → Instr) (tail : List ℕ) (instr : Instr) → IsBytes tail → IsWhole at opcode (U2U1Zero makes) tail instr → Reads at (U2U1Zero makes) tail instr
reads_u2u1_zero at opcode makes tail instr small e =
    let first = u2_in tail 0 in
    let second = u1_in (drop 2 tail) 0 in
    let behind = drop 1 (drop 2 tail) in
    let read = sized_if_is (eqb (u1_in (drop 3 tail) 0) 0) at (opcode ∷ tail) 5 (makes first second) instr _ e in
    let long : length tail ≡ 4 = omega (arith, read.1.count_is) in
    let rest : length behind ≡ 1 = omega (arith, length-drop 1 (drop 2 tail), length-drop 2 tail) in
    let cut = cut_u2 tail (omega arith) small in
    let then = cut_u1 (drop 2 tail) (omega (arith, length-drop 2 tail)) cut.are_bytes in
    let last = one_number behind _ _ _ 1 rest (cut_u1 behind (omega arith) then.are_bytes) in
    let zero = ap (λ l. u1_in l 0) (drop-drop 1 2 tail) ∙ eqb-true _ 0 read.0 in
    record {
      first = first;
      second = second;
      fits = (cut.fits, then.fits);
      tail_is = cut.is ∙ ap (λ others. u2 first ++ others) (then.is ∙ ap (λ others. second ∷ others) (last ∙ ap (λ n. n ∷ []) zero));
      instr_is = read.1.made_is;
    }

reads_u2_zero_zero : (at opcode : ℕ) (makes : ℕ → Instr) (tail : List ℕ) (instr : Instr) → IsBytes tail → IsWhole at opcode (U2ZeroZero makes) tail instr → Reads at (U2ZeroZero makes) tail instr
reads_u2_zero_zero at opcode makes tail instr small e =
    let number = u2_in tail 0 in
    let behind = drop 2 tail in
    let read = sized_if_is (eqb (u2_in behind 0) 0) at (opcode ∷ tail) 5 (makes number) instr _ e in
    let long : length tail ≡ 4 = omega (arith, read.1.count_is) in
    let rest : length behind ≡ 2 = omega (arith, length-drop 2 tail) in
    let cut = cut_u2 tail (omega arith) small in
    let last = one_number behind _ _ _ 2 rest (cut_u2 behind (omega arith) cut.are_bytes) in
    record {
      number = number;
      fits = cut.fits;
      tail_is = cut.is ∙ ap (λ others. u2 number ++ others) (last ∙ ap u2 (eqb-true _ 0 read.0));
      instr_is = read.1.made_is;
    }

reads_wide_local : (at opcode : ℕ) (makes : ℕ → Instr) (tail : List ℕ) (instr : Instr) → IsBytes tail → operands_in wide_rows (u1_in tail 0) ≡ Some (U2 makes) → sized at (opcode ∷ tail) 4 (makes (u2_in (drop 1 tail) 0)) ≡ Ok (instr, suc (length tail)) → ReadsWide tail instr
reads_wide_local at opcode makes tail instr small found e =
    let index = u2_in (drop 1 tail) 0 in
    let read = sized_is at (opcode ∷ tail) 4 (makes index) instr _ e in
    let long : length tail ≡ 3 = omega (arith, read.count_is) in
    let rest : length (drop 1 tail) ≡ 2 = omega (arith, length-drop 1 tail) in
    let cut = cut_u1 tail (omega arith) small in
    let then = cut_u2 (drop 1 tail) (omega arith) cut.are_bytes in
    record {
      opcode = u1_in tail 0;
      makes = makes;
      index = index;
      found = found;
      index_fits = then.fits;
      tail_is = cut.is ∙ ap (λ others. u1_in tail 0 ∷ others) (one_number (drop 1 tail) _ _ index 2 rest then);
      instr_is = read.made_is;
    }

-- any other opcode behind a wide is an iinc
abbrev IsIinc : ℕ → ℕ → List ℕ → Instr → Type 0
IsIinc at opcode tail instr =
    cond (eqb (u1_in tail 0) 132) (sized at (opcode ∷ tail) 6 (Iinc (u2_in (drop 1 tail) 0) (cast_signed w16 (u2_in (drop 3 tail) 0)))) (Err (fault at rules.Opcode)) ≡ Ok (instr, suc (length tail))

reads_wide_iinc : (at opcode : ℕ) (tail : List ℕ) (instr : Instr) → IsBytes tail → IsIinc at opcode tail instr → ReadsWideIinc tail instr
reads_wide_iinc at opcode tail instr small e =
    let index = u2_in (drop 1 tail) 0 in
    let bits = u2_in (drop 3 tail) 0 in
    let behind = drop 2 (drop 1 tail) in
    let made = Iinc index (cast_signed w16 bits) in
    let whole = not_other_fault (eqb (u1_in tail 0) 132) (fault at rules.Opcode) (sized at (opcode ∷ tail) 6 made) (instr, suc (length tail)) e in
    let read = sized_is at (opcode ∷ tail) 6 made instr (suc (length tail)) whole.1 in
    let long : length tail ≡ 5 = omega (arith, read.count_is) in
    let rest : length behind ≡ 2 = omega (arith, length-drop 2 (drop 1 tail), length-drop 1 tail) in
    let cut = cut_u1 tail (omega arith) small in
    let then = cut_u2 (drop 1 tail) (omega (arith, length-drop 1 tail)) cut.are_bytes in
    let last = cut_u2 behind (omega arith) then.are_bytes in
    let same = ap (λ l. u2_in l 0) (drop-drop 2 1 tail) in
    record {
      index = index;
      bits = u2_in behind 0;
      index_fits = then.fits;
      bits_fit = last.fits;
      tail_is = cut.is ∙ ap (λ n. n ∷ drop 1 tail) (eqb-true _ 132 whole.0) ∙ ap (λ others. 132 ∷ others) (then.is ∙ ap (λ others. u2 index ++ others) (one_number behind _ _ _ 2 rest last));
      instr_is = read.made_is ∙ ap (λ n. Iinc index (cast_signed w16 n)) (sym same);
    }

reads_wide_by : (at opcode : ℕ) (tail : List ℕ) (instr : Instr) (found : Option Operands) → IsBytes tail → operands_in wide_rows (u1_in tail 0) ≡ found → wide_operands at (opcode ∷ tail) found ≡ Ok (instr, suc (length tail)) → ReadsWide tail instr ⊎ ReadsWideIinc tail instr
reads_wide_by at opcode tail instr (Some (U2 makes)) small is e = inl (reads_wide_local at opcode makes tail instr small is e)
reads_wide_by at opcode tail instr other small is e = inr (reads_wide_iinc at opcode tail instr small e)

reads_wide : (at opcode : ℕ) (tail : List ℕ) (instr : Instr) → IsBytes tail → IsWhole at opcode Wide tail instr → Reads at Wide tail instr
reads_wide at opcode tail instr small e = reads_wide_by at opcode tail instr _ small refl (not_fault _ _ _ _ e).1

pub reads_all : (at opcode : ℕ) (operands : Operands) (tail : List ℕ) (instr : Instr) → IsBytes tail → IsWhole at opcode operands tail instr → Reads at operands tail instr
reads_all at opcode (Alone made) tail instr small e = reads_alone at opcode made tail instr small e
reads_all at opcode (U1 makes) tail instr small e = reads_u1 at opcode makes tail instr small e
reads_all at opcode (U2 makes) tail instr small e = reads_u2 at opcode makes tail instr small e
reads_all at opcode (S1 makes) tail instr small e = reads_s1 at opcode makes tail instr small e
reads_all at opcode (S2 makes) tail instr small e = reads_s2 at opcode makes tail instr small e
reads_all at opcode (U1S1 makes) tail instr small e = reads_u1s1 at opcode makes tail instr small e
reads_all at opcode ArrayCode tail instr small e = reads_array_code at opcode tail instr small e
reads_all at opcode Dimensions tail instr small e = reads_dimensions at opcode tail instr small e
reads_all at opcode (U2U1Zero makes) tail instr small e = reads_u2u1_zero at opcode makes tail instr small e
reads_all at opcode (U2ZeroZero makes) tail instr small e = reads_u2_zero_zero at opcode makes tail instr small e
reads_all at opcode (Jump2 makes) tail instr small e = reads_jump2 at opcode makes tail instr small e
reads_all at opcode (Jump4 makes) tail instr small e = reads_jump4 at opcode makes tail instr small e
reads_all at opcode TableSwitch tail instr small e = reads_table at opcode tail instr small e
reads_all at opcode LookupSwitch tail instr small e = reads_lookup at opcode tail instr small e
reads_all at opcode Wide tail instr small e = reads_wide at opcode tail instr small e
