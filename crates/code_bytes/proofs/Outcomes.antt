-- Bytes that spell an instruction are the written ones, or there are more of them.
use Rattle.std.proofs.Common.{◌≡◌, ℕ, zero, suc, ◌+◌, ◌-◌, ◌^◌, ◌<◌, ltb, true, ◌&&◌, List, [], ◌∷◌, ◌++◌, length, w8, w16, w32, inl, inr, ◌⊎◌, sym, ap, arith}
use Rattle.std.specs.Prelude.{ℤ, pos, negsuc, unsigned_abs, ◌+ℤ◌, FitsSigned}
use Rattle.std.specs.Int.{cast_signed}
use Rattle.std.proofs.lemmas.Int.{of_z-to_z}
use Rattle.std.proofs.lemmas.Bool.{cases_Bool, cases_lt, ltb-true, leb-true, lt-ltb, le-ltb, le-leb, and_parts, and_from}
use Rattle.class_model.specs.Cutting.{IsBytes}
use Rattle.class_model.specs.Spelling.{u2, u4}
use Rattle.class_model.specs.Instructions.{IsSpelling, target_of}
use Rattle.class_model.specs.declared.descriptor.Kind.{Kind}
use Rattle.class_model.specs.declared.descriptor.Kind.TheVariants as kinds
use Rattle.class_model.specs.declared.instr.Imm.TheVariants as imms
use Rattle.class_model.specs.declared.instr.Instr.{Instr}
use Rattle.class_model.specs.declared.instr.Instr.TheVariants.{Const, Ldc, Iinc, Goto}
use Rattle.code_bytes.specs.Encoding.{HasZeroPad}
use Rattle.code_bytes.specs.Forms.{kind_index, is_short, int_bytes, ldc_bytes, local_bytes, iinc_bytes, offset_of, is_near, jump_bytes, goto_bytes}
use Rattle.code_bytes.specs.Numbers.{IsU1, IsU2}
use Rattle.code_bytes.specs.Spellings.{IsU4, to_of}
use Rattle.code_bytes.proofs.Offsets.{offset_back, near_offset, target_fits}
use Rattle.code_bytes.proofs.SpelledForms.{short_fits, byte_fits, spells_int, spells_ldc, HasLocalRows, spells_local, spells_iinc, spells_goto, is_small}

-- as many as the written ones, which they are if their pad bytes are zero
pub record IsSame (at : ℕ) (instr : Instr) (written bytes : List ℕ) : Type 0 where
  pub long : length bytes ≡ length written
  pub is : HasZeroPad at instr bytes → bytes ≡ written

-- more than the written ones
pub record IsLonger (at : ℕ) (instr : Instr) (written bytes : List ℕ) : Type 0 where
  pub longer : length written < length bytes
  pub are_bytes : IsBytes written
  pub spells : IsSpelling at instr written

abbrev pub Outcome : ℕ → Instr → List ℕ → List ℕ → Type 0
Outcome at instr written bytes = IsSame at instr written bytes ⊎ IsLonger at instr written bytes

pub exact : (at : ℕ) (instr : Instr) (written bytes : List ℕ) → written ≡ bytes → Outcome at instr written bytes
exact at instr written bytes e = inl (record { long = ap length (sym e); is = λ _. sym e })

-- ---- constants

signed_byte : (bits : ℕ) → IsU1 bits → is_short (cast_signed w8 bits) ≡ true
signed_byte bits fits =
    elim (cases_lt bits (2 ^ 7)) [
      | inl small ↦ rw (lt-ltb bits (2 ^ 7) small, le-leb bits 127 (omega arith))
      | inr large ↦ rw (le-ltb bits (2 ^ 7) large, le-leb (256 - suc bits) 127 (omega arith))
    ]

signed_word : (bits : ℕ) → IsU2 bits → FitsSigned w16 (cast_signed w16 bits)
signed_word bits fits =
    elim (cases_lt bits (2 ^ 15)) [
      | inl small ↦ rw (lt-ltb bits (2 ^ 15) small) (record { sfits = omega arith })
      | inr large ↦ rw (le-ltb bits (2 ^ 15) large) (record { sfits = omega arith })
    ]

signed_byte_fits : (bits : ℕ) → IsU1 bits → FitsSigned w16 (cast_signed w8 bits)
signed_byte_fits bits fits =
    elim (cases_lt bits (2 ^ 7)) [
      | inl small ↦ rw (lt-ltb bits (2 ^ 7) small) (record { sfits = omega arith })
      | inr large ↦ rw (le-ltb bits (2 ^ 7) large) (record { sfits = omega arith })
    ]

small_opcode : (number : ℤ) → is_small number ≡ true → unsigned_abs (number +ℤ pos 3) < 256
small_opcode (pos n) small = omega (arith, leb-true n 5 small)
small_opcode (negsuc zero) small = omega arith
small_opcode (negsuc (suc n)) small = absurd (omega (arith, leb-true (suc n) 0 (and_parts _ _ small).0))

pub int_byte : (at bits : ℕ) → IsU1 bits → Outcome at (Const (imms.Int (cast_signed w8 bits))) (int_bytes (cast_signed w8 bits)) (16 ∷ bits ∷ [])
int_byte at bits fits =
    let number = cast_signed w8 bits in
    let short = signed_byte bits fits in
    elim (cases_Bool (is_small number)) [
      | inl small ↦ inr (record { longer = rw small (omega arith); are_bytes = rw small (small_opcode number small, tt); spells = spells_int at number (signed_byte_fits bits fits) })
      | inr large ↦ exact at _ _ _ (rw (large, short) (ap (λ n. 16 ∷ n ∷ []) (of_z-to_z w8 bits fits)))
    ]

pub int_word : (at bits : ℕ) → IsU2 bits → Outcome at (Const (imms.Int (cast_signed w16 bits))) (int_bytes (cast_signed w16 bits)) (17 ∷ u2 bits)
int_word at bits fits =
    let number = cast_signed w16 bits in
    let spells = spells_int at number (signed_word bits fits) in
    elim (cases_Bool (is_small number)) [
      | inl small ↦ inr (record { longer = rw small (omega arith); are_bytes = rw small (small_opcode number small, tt); spells = spells })
      | inr large ↦
          elim (cases_Bool (is_short number)) [
            | inl short ↦ inr (record { longer = rw (large, short) (omega arith); are_bytes = rw (large, short) (omega arith, (byte_fits number (short_fits number short), tt)); spells = spells })
            | inr long ↦ exact at _ _ _ (rw (large, long) (ap (λ n. 17 ∷ u2 n) (of_z-to_z w16 bits fits)))
          ]
    ]

-- ---- ldc, locals

pub ldc_byte : (at index : ℕ) → IsU1 index → Outcome at (Ldc index) (ldc_bytes index) (18 ∷ index ∷ [])
ldc_byte at index fits = exact at _ _ _ (rw (lt-ltb index 256 fits))

pub ldc_word : (at index : ℕ) → IsU2 index → Outcome at (Ldc index) (ldc_bytes index) (19 ∷ u2 index)
ldc_word at index fits =
    elim (cases_Bool (ltb index 256)) [
      | inl small ↦ inr (record { longer = rw small (omega arith); are_bytes = rw small (omega arith, (ltb-true index 256 small, tt)); spells = spells_ldc at index fits })
      | inr large ↦ exact at _ _ _ (rw large)
    ]

kind_below : (kind : Kind) → kind_index kind < 5
kind_below kinds.Int = omega arith
kind_below kinds.Long = omega arith
kind_below kinds.Float = omega arith
kind_below kinds.Double = omega arith
kind_below kinds.Ref = omega arith

module _ (at short general : ℕ) (makes : Kind → ℕ → Instr) (found : HasLocalRows short general makes) (short_fits : short + 20 < 256) (general_fits : general + 5 < 256) where
  pub local_byte : (kind : Kind) (index : ℕ) → IsU1 index → Outcome at (makes kind index) (local_bytes short general kind index) ((general + kind_index kind) ∷ index ∷ [])
  local_byte kind index fits =
      elim (cases_Bool (ltb index 4)) [
        | inl small ↦ inr (record { longer = rw small (omega arith); are_bytes = rw small (omega (arith, kind_below kind, ltb-true index 4 small), tt); spells = spells_local at short general makes kind index found (omega arith) })
        | inr large ↦ exact at _ _ _ (rw (large, lt-ltb index 256 fits))
      ]

  pub local_wide : (kind : Kind) (index : ℕ) → IsU2 index → Outcome at (makes kind index) (local_bytes short general kind index) (196 ∷ (general + kind_index kind) ∷ u2 index)
  local_wide kind index fits =
      let spells = spells_local at short general makes kind index found fits in
      elim (cases_Bool (ltb index 4)) [
        | inl small ↦ inr (record { longer = rw small (omega arith); are_bytes = rw small (omega (arith, kind_below kind, ltb-true index 4 small), tt); spells = spells })
        | inr large ↦
            elim (cases_Bool (ltb index 256)) [
              | inl byte ↦ inr (record { longer = rw (large, byte) (omega arith); are_bytes = rw (large, byte) (omega (arith, kind_below kind), (ltb-true index 256 byte, tt)); spells = spells })
              | inr word ↦ exact at _ _ _ (rw (large, word))
            ]
      ]

pub iinc_byte : (at index bits : ℕ) → IsU1 index → IsU1 bits → Outcome at (Iinc index (cast_signed w8 bits)) (iinc_bytes index (cast_signed w8 bits)) (132 ∷ index ∷ bits ∷ [])
iinc_byte at index bits index_fits bits_fit =
    let small = and_from _ _ (lt-ltb index 256 index_fits) (signed_byte bits bits_fit) in
    exact at _ _ _ (rw small (ap (λ n. 132 ∷ index ∷ n ∷ []) (of_z-to_z w8 bits bits_fit)))

pub iinc_wide : (at index bits : ℕ) → IsU2 index → IsU2 bits → Outcome at (Iinc index (cast_signed w16 bits)) (iinc_bytes index (cast_signed w16 bits)) (196 ∷ 132 ∷ (u2 index ++ u2 bits))
iinc_wide at index bits index_fits bits_fit =
    let number = cast_signed w16 bits in
    elim (cases_Bool (ltb index 256 && is_short number)) [
      | inl small ↦
          let parts = and_parts (ltb index 256) (is_short number) small in
          inr (record { longer = rw small (omega arith); are_bytes = rw small (omega arith, (ltb-true index 256 parts.0, (byte_fits number (short_fits number parts.1), tt))); spells = spells_iinc at index number index_fits (signed_word bits bits_fit) })
      | inr large ↦ exact at _ _ _ (rw large (ap (λ n. 196 ∷ 132 ∷ (u2 index ++ u2 n)) (of_z-to_z w16 bits bits_fit)))
    ]

-- ---- jumps

pub jump_near : (at opcode bits : ℕ) → IsU2 bits → jump_bytes opcode at (target_of at (cast_signed w16 bits)) ≡ opcode ∷ u2 bits
jump_near at opcode bits fits = ap (λ n. opcode ∷ u2 n) (near_offset at bits fits).low

pub goto_near : (at bits : ℕ) → IsU2 bits → Outcome at (Goto (target_of at (cast_signed w16 bits))) (goto_bytes at (target_of at (cast_signed w16 bits))) (167 ∷ u2 bits)
goto_near at bits fits = exact at _ _ _ (rw (near_offset at bits fits).near (jump_near at 167 bits fits))

pub goto_far : (at bits : ℕ) → IsU4 bits → Outcome at (Goto (to_of at bits)) (goto_bytes at (to_of at bits)) (200 ∷ u4 bits)
goto_far at bits fits =
    let to = to_of at bits in
    elim (cases_Bool (is_near (offset_of at to))) [
      | inl near ↦ inr (record { longer = rw near (omega arith); are_bytes = rw near (omega arith, (omega arith, (omega arith, tt))); spells = spells_goto at to (target_fits at (cast_signed w32 bits)) })
      | inr far ↦ exact at _ _ _ (rw far (ap (λ n. 200 ∷ u4 n) (offset_back at bits fits)))
    ]
