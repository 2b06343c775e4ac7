-- Each form that is written spells its instruction.
use Rattle.std.proofs.Common.{◌≡◌, ℕ, zero, suc, ◌+◌, ◌*◌, ◌%◌, ◌^◌, ◌<◌, ◌≤◌, ltb, Bool, true, ◌&&◌, [], ◌∷◌, Some, w8, w16, inl, inr, refl, sym, ap, arith}
use Rattle.std.specs.Prelude.{ℤ, pos, negsuc, int_le, unsigned_abs, ◌+ℤ◌, FitsSigned}
use Rattle.std.specs.Int.{cast_unsigned}
use Rattle.std.proofs.lemmas.Int.{ints, to_z-of_z}
use Rattle.std.proofs.lemmas.Bool.{cond_both, ltb-true, leb-true, and_parts}
use Rattle.class_model.specs.Spelling.{u2, u4}
use Rattle.class_model.specs.Instructions.{Alone, U1, U2, S1, S2, U1S1, Jump2, Jump4, Wide, rows, wide_rows, operands_in, IsSpelling}
use Rattle.class_model.specs.declared.descriptor.Kind.{Kind}
use Rattle.class_model.specs.declared.descriptor.Kind.TheVariants as kinds
use Rattle.class_model.specs.declared.instr.Imm.{Imm}
use Rattle.class_model.specs.declared.instr.Imm.TheVariants as imms
use Rattle.class_model.specs.declared.instr.Instr.{Instr}
use Rattle.class_model.specs.declared.instr.Instr.TheVariants.{Const, Ldc, Load, Store, Iinc, Goto}
use Rattle.code_bytes.specs.Encoding.{IsPushed}
use Rattle.code_bytes.specs.Forms.{kind_index, is_short, int_bytes, pushed_bytes, ldc_bytes, local_bytes, iinc_bytes, offset_of, is_near, jump_bytes, goto_bytes}
use Rattle.code_bytes.specs.Numbers.{IsU1, IsU2}
use Rattle.code_bytes.proofs.Offsets.{offset_fits, target_back, near_back}
use Rattle.code_bytes.proofs.WrittenForms.{spells_read}

-- ---- constants

abbrev pub is_small : ℤ → Bool
is_small number = int_le (negsuc 0) number && int_le number (pos 5)

small_row : (n : ℕ) → n ≤ 5 → operands_in rows (n + 3) ≡ Some (Alone (Const (imms.Int (pos n))))
small_row zero h = refl
small_row (suc zero) h = refl
small_row (suc (suc zero)) h = refl
small_row (suc (suc (suc zero))) h = refl
small_row (suc (suc (suc (suc zero)))) h = refl
small_row (suc (suc (suc (suc (suc zero))))) h = refl
small_row (suc (suc (suc (suc (suc (suc n)))))) h = absurd (omega arith)

pub spells_small : (at : ℕ) (number : ℤ) → is_small number ≡ true → IsSpelling at (Const (imms.Int number)) (unsigned_abs (number +ℤ pos 3) ∷ [])
spells_small at (pos n) small = spells_read at (n + 3) _ [] _ (small_row n (leb-true n 5 small)) (refl, refl)
spells_small at (negsuc zero) small = spells_read at 2 _ [] _ refl (refl, refl)
spells_small at (negsuc (suc n)) small = absurd (omega (arith, leb-true (suc n) 0 (and_parts _ _ small).0))

pub short_fits : (number : ℤ) → is_short number ≡ true → FitsSigned w8 number
short_fits (pos n) short = record { sfits = let small = leb-true n 127 short in omega arith }
short_fits (negsuc n) short = record { sfits = let small = leb-true n 127 (and_parts _ _ short).0 in omega arith }

pub byte_fits : (number : ℤ) → FitsSigned w8 number → IsU1 (cast_unsigned w8 number)
byte_fits number fits = omega (arith, ints)

pub word_fits : (number : ℤ) → FitsSigned w16 number → IsU2 (cast_unsigned w16 number)
word_fits number fits = omega (arith, ints)

spells_byte : (at : ℕ) (number : ℤ) → FitsSigned w8 number → IsSpelling at (Const (imms.Int number)) (16 ∷ cast_unsigned w8 number ∷ [])
spells_byte at number fits = spells_read at 16 (S1 (λ n. Const (imms.Int n))) _ _ refl (record {
  number = cast_unsigned w8 number;
  fits = byte_fits number fits;
  tail_is = refl;
  instr_is = ap (λ n. Const (imms.Int n)) (sym (to_z-of_z w8 number fits));
})

spells_word : (at : ℕ) (number : ℤ) → FitsSigned w16 number → IsSpelling at (Const (imms.Int number)) (17 ∷ u2 (cast_unsigned w16 number))
spells_word at number fits = spells_read at 17 (S2 (λ n. Const (imms.Int n))) _ _ refl (record {
  number = cast_unsigned w16 number;
  fits = word_fits number fits;
  tail_is = refl;
  instr_is = ap (λ n. Const (imms.Int n)) (sym (to_z-of_z w16 number fits));
})

pub spells_int : (at : ℕ) (number : ℤ) → FitsSigned w16 number → IsSpelling at (Const (imms.Int number)) (int_bytes number)
spells_int at number fits =
    let Spells = IsSpelling at (Const (imms.Int number)) in
    cond_both (is_small number) _ _ Spells (spells_small at number) (λ _. cond_both (is_short number) _ _ Spells (λ short. spells_byte at number (short_fits number short)) (λ _. spells_word at number fits))

pub spells_pushed : (at : ℕ) (value : Imm) → IsPushed value → IsSpelling at (Const value) (pushed_bytes value)
spells_pushed at imms.Null pushed = spells_read at 1 _ [] _ refl (refl, refl)
spells_pushed at (imms.Int number) pushed = spells_int at number pushed
spells_pushed at (imms.Long number) (inl e) = rw e (spells_read at 9 _ [] _ refl (refl, refl))
spells_pushed at (imms.Long number) (inr e) = rw e (spells_read at 10 _ [] _ refl (refl, refl))
spells_pushed at (imms.Float bits) (inl e) = rw e (spells_read at 11 _ [] _ refl (refl, refl))
spells_pushed at (imms.Float bits) (inr (inl e)) = rw e (spells_read at 12 _ [] _ refl (refl, refl))
spells_pushed at (imms.Float bits) (inr (inr e)) = rw e (spells_read at 13 _ [] _ refl (refl, refl))
spells_pushed at (imms.Double bits) (inl e) = rw e (spells_read at 14 _ [] _ refl (refl, refl))
spells_pushed at (imms.Double bits) (inr e) = rw e (spells_read at 15 _ [] _ refl (refl, refl))

pub spells_ldc : (at index : ℕ) → IsU2 index → IsSpelling at (Ldc index) (ldc_bytes index)
spells_ldc at index fits =
    cond_both (ltb index 256) _ _ (IsSpelling at (Ldc index))
    (λ small. spells_read at 18 (U1 Ldc) _ _ refl (record { number = index; fits = ltb-true index 256 small; tail_is = refl; instr_is = refl }))
    (λ _. spells_read at 19 (U2 Ldc) _ _ refl (record { number = index; fits = fits; tail_is = refl; instr_is = refl }))

-- ---- locals

-- what the tables have of the loads or of the stores
pub record HasLocalRows (short general : ℕ) (makes : Kind → ℕ → Instr) : Type 0 where
  pub alone : (kind : Kind) (index : ℕ) → index < 4 → operands_in rows (short + 4 * kind_index kind + index) ≡ Some (Alone (makes kind index))
  pub indexed : (kind : Kind) → operands_in rows (general + kind_index kind) ≡ Some (U1 (makes kind))
  pub widened : (kind : Kind) → operands_in wide_rows (general + kind_index kind) ≡ Some (U2 (makes kind))

each_below_4 : (P : ℕ → Type 0) → P 0 → P 1 → P 2 → P 3 → (index : ℕ) → index < 4 → P index
each_below_4 P a b c d zero h = a
each_below_4 P a b c d (suc zero) h = b
each_below_4 P a b c d (suc (suc zero)) h = c
each_below_4 P a b c d (suc (suc (suc zero))) h = d
each_below_4 P a b c d (suc (suc (suc (suc n)))) h = absurd (omega arith)

load_alone : (kind : Kind) (index : ℕ) → index < 4 → operands_in rows (26 + 4 * kind_index kind + index) ≡ Some (Alone (Load kind index))
load_alone kinds.Int = each_below_4 (λ index. operands_in rows (26 + index) ≡ Some (Alone (Load kinds.Int index))) refl refl refl refl
load_alone kinds.Long = each_below_4 (λ index. operands_in rows (30 + index) ≡ Some (Alone (Load kinds.Long index))) refl refl refl refl
load_alone kinds.Float = each_below_4 (λ index. operands_in rows (34 + index) ≡ Some (Alone (Load kinds.Float index))) refl refl refl refl
load_alone kinds.Double = each_below_4 (λ index. operands_in rows (38 + index) ≡ Some (Alone (Load kinds.Double index))) refl refl refl refl
load_alone kinds.Ref = each_below_4 (λ index. operands_in rows (42 + index) ≡ Some (Alone (Load kinds.Ref index))) refl refl refl refl

store_alone : (kind : Kind) (index : ℕ) → index < 4 → operands_in rows (59 + 4 * kind_index kind + index) ≡ Some (Alone (Store kind index))
store_alone kinds.Int = each_below_4 (λ index. operands_in rows (59 + index) ≡ Some (Alone (Store kinds.Int index))) refl refl refl refl
store_alone kinds.Long = each_below_4 (λ index. operands_in rows (63 + index) ≡ Some (Alone (Store kinds.Long index))) refl refl refl refl
store_alone kinds.Float = each_below_4 (λ index. operands_in rows (67 + index) ≡ Some (Alone (Store kinds.Float index))) refl refl refl refl
store_alone kinds.Double = each_below_4 (λ index. operands_in rows (71 + index) ≡ Some (Alone (Store kinds.Double index))) refl refl refl refl
store_alone kinds.Ref = each_below_4 (λ index. operands_in rows (75 + index) ≡ Some (Alone (Store kinds.Ref index))) refl refl refl refl

each_kind : (P : Kind → Type 0) → P kinds.Int → P kinds.Long → P kinds.Float → P kinds.Double → P kinds.Ref → (kind : Kind) → P kind
each_kind P a b c d e kinds.Int = a
each_kind P a b c d e kinds.Long = b
each_kind P a b c d e kinds.Float = c
each_kind P a b c d e kinds.Double = d
each_kind P a b c d e kinds.Ref = e

pub load_rows : HasLocalRows 26 21 Load
load_rows = record {
  alone = load_alone;
  indexed = each_kind (λ kind. operands_in rows (21 + kind_index kind) ≡ Some (U1 (Load kind))) refl refl refl refl refl;
  widened = each_kind (λ kind. operands_in wide_rows (21 + kind_index kind) ≡ Some (U2 (Load kind))) refl refl refl refl refl;
}

pub store_rows : HasLocalRows 59 54 Store
store_rows = record {
  alone = store_alone;
  indexed = each_kind (λ kind. operands_in rows (54 + kind_index kind) ≡ Some (U1 (Store kind))) refl refl refl refl refl;
  widened = each_kind (λ kind. operands_in wide_rows (54 + kind_index kind) ≡ Some (U2 (Store kind))) refl refl refl refl refl;
}

pub spells_local : (at short general : ℕ) (makes : Kind → ℕ → Instr) (kind : Kind) (index : ℕ) → HasLocalRows short general makes → IsU2 index → IsSpelling at (makes kind index) (local_bytes short general kind index)
spells_local at short general makes kind index found fits =
    let Spells = IsSpelling at (makes kind index) in
    cond_both (ltb index 4) _ _ Spells
    (λ small. spells_read at (short + 4 * kind_index kind + index) _ [] _ (found.alone kind index (ltb-true index 4 small)) (refl, refl))
    (λ _. cond_both (ltb index 256) _ _ Spells
    (λ small. spells_read at (general + kind_index kind) (U1 (makes kind)) _ _ (found.indexed kind) (record { number = index; fits = ltb-true index 256 small; tail_is = refl; instr_is = refl }))
    (λ _. spells_read at 196 Wide _ _ refl (inl (record { opcode = general + kind_index kind; makes = makes kind; index = index; found = found.widened kind; index_fits = fits; tail_is = refl; instr_is = refl }))))

pub spells_iinc : (at index : ℕ) (number : ℤ) → IsU2 index → FitsSigned w16 number → IsSpelling at (Iinc index number) (iinc_bytes index number)
spells_iinc at index number index_fits number_fits =
    cond_both (ltb index 256 && is_short number) _ _ (IsSpelling at (Iinc index number))
    (λ small.
    let parts = and_parts _ _ small in
    let short = short_fits number parts.1 in
    spells_read at 132 (U1S1 Iinc) _ _ refl (record { first = index; second = cast_unsigned w8 number; fits = (ltb-true index 256 parts.0, byte_fits number short); tail_is = refl; instr_is = ap (Iinc index) (sym (to_z-of_z w8 number short)) }))
    (λ _. spells_read at 196 Wide _ _ refl (inr (record { index = index; bits = cast_unsigned w16 number; index_fits = index_fits; bits_fit = word_fits number number_fits; tail_is = refl; instr_is = ap (Iinc index) (sym (to_z-of_z w16 number number_fits)) })))

-- ---- jumps

pub spells_jump : (at opcode to : ℕ) (makes : ℕ → Instr) → operands_in rows opcode ≡ Some (Jump2 makes) → to < 2 ^ 32 → is_near (offset_of at to) ≡ true → IsSpelling at (makes to) (jump_bytes opcode at to)
spells_jump at opcode to makes found fits near = spells_read at opcode (Jump2 makes) _ _ found (record {
  number = offset_of at to % 2 ^ 16;
  fits = omega arith;
  tail_is = refl;
  instr_is = ap makes (sym (near_back at to fits near));
})

pub spells_wide_goto : (at to : ℕ) → to < 2 ^ 32 → IsSpelling at (Goto to) (200 ∷ u4 (offset_of at to))
spells_wide_goto at to fits =
    spells_read at 200 (Jump4 Goto) _ _ refl (record { number = offset_of at to; fits = offset_fits at to; tail_is = refl; instr_is = ap Goto (sym (target_back at to fits)) })

pub spells_goto : (at to : ℕ) → to < 2 ^ 32 → IsSpelling at (Goto to) (goto_bytes at to)
spells_goto at to fits =
    cond_both (is_near (offset_of at to)) _ _ (IsSpelling at (Goto to))
    (λ near. spells_jump at 167 to Goto refl fits near)
    (λ _. spells_wide_goto at to fits)
