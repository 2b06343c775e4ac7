-- A jump's offset and its target.
use Rattle.std.proofs.Common.{◌≡◌, ℕ, ◌+◌, ◌-◌, ◌%◌, ◌^◌, ◌<◌, ◌≤◌, ltb, leb, Bool, true, false, ◌||◌, inl, inr, refl, ap, ◌∙◌, arith, w16, w32}
use Rattle.std.specs.Prelude.{ℤ}
use Rattle.std.specs.Int.{cast_signed, cast_unsigned}
use Rattle.std.proofs.lemmas.Int.{ints, of_z-to_z}
use Rattle.std.proofs.lemmas.Bool.{ltb-true, leb-true, lt-ltb, le-ltb, le-leb, or_cases, cases_lt}
use Rattle.class_model.specs.Instructions.{target_of}
use Rattle.code_bytes.specs.Encoding.{Reaches}
use Rattle.code_bytes.specs.Forms.{offset_of, is_near}
use Rattle.code_bytes.specs.Numbers.{IsU2}
use Rattle.code_bytes.specs.Spellings.{IsU4, to_of}

-- ---- from a target to its offset and back

there_and_back : (at to bits : ℕ) → to < 2 ^ 32 → bits ≡ offset_of at to → (at + bits) % 2 ^ 32 ≡ to
there_and_back at to bits fits is = omega arith

pub offset_fits : (at to : ℕ) → IsU4 (offset_of at to)
offset_fits at to = omega arith

pub target_back : (at to : ℕ) → to < 2 ^ 32 → to_of at (offset_of at to) ≡ to
target_back at to fits =
    there_and_back at to _ fits (of_z-to_z w32 (offset_of at to) (offset_fits at to))

-- 16 bits as a signed number, in 32 bits
low_bits : (bits : ℕ) → bits < 2 ^ 15 → cast_unsigned w32 (cast_signed w16 bits) ≡ bits
low_bits bits small = omega (arith, ints)

high_bits : (bits : ℕ) → 2 ^ 15 ≤ bits → bits < 2 ^ 16 → cast_unsigned w32 (cast_signed w16 bits) ≡ bits + (2 ^ 32 - 2 ^ 16)
high_bits bits large fits = let e = le-ltb bits (2 ^ 15) large in rw e (omega arith)

or_true : (x : Bool) → x || true ≡ true
or_true true = refl
or_true false = refl

near_low : (bits : ℕ) → bits < 2 ^ 15 → is_near bits ≡ true
near_low bits small = rw (lt-ltb bits (2 ^ 15) small)

near_high : (bits : ℕ) → 2 ^ 32 - 2 ^ 15 ≤ bits → is_near bits ≡ true
near_high bits large = rw (le-leb (2 ^ 32 - 2 ^ 15) bits large, or_true)

-- 16 bits of an offset that fits them are the offset
near_bits : (bits : ℕ) → bits < 2 ^ 32 → is_near bits ≡ true → cast_unsigned w32 (cast_signed w16 (bits % 2 ^ 16)) ≡ bits
near_bits bits fits near =
    elim (or_cases (ltb bits (2 ^ 15)) (leb (2 ^ 32 - 2 ^ 15) bits) near) [
      | inl e ↦ let small = ltb-true bits (2 ^ 15) e in low_bits (bits % 2 ^ 16) (omega arith) ∙ omega arith
      | inr e ↦ let large = leb-true (2 ^ 32 - 2 ^ 15) bits e in high_bits (bits % 2 ^ 16) (omega arith) (omega arith) ∙ omega arith
    ]

pub near_back : (at to : ℕ) → to < 2 ^ 32 → is_near (offset_of at to) ≡ true → target_of at (cast_signed w16 (offset_of at to % 2 ^ 16)) ≡ to
near_back at to fits near = there_and_back at to _ fits (near_bits (offset_of at to) (offset_fits at to) near)

pub reaches_near : (at to : ℕ) → at < 2 ^ 31 → to < 2 ^ 31 → Reaches at to → is_near (offset_of at to) ≡ true
reaches_near at to at_fits to_fits reaches =
    elim (cases_lt to at) [
      | inl back ↦ near_high (offset_of at to) (omega (arith, ints))
      | inr on ↦ near_low (offset_of at to) (omega (arith, ints))
    ]

-- ---- from an offset to its target and back

back_and_there : (at bits : ℕ) → bits < 2 ^ 32 → offset_of at ((at + bits) % 2 ^ 32) ≡ bits
back_and_there at bits fits = omega arith

pub offset_back : (at bits : ℕ) → IsU4 bits → offset_of at (to_of at bits) ≡ bits
offset_back at bits fits =
    ap (λ n. offset_of at ((at + n) % 2 ^ 32)) (of_z-to_z w32 bits fits) ∙ back_and_there at bits fits

pub target_fits : (at : ℕ) (offset : ℤ) → target_of at offset < 2 ^ 32
target_fits at offset = omega arith

-- the offset of a target by 16 bits
pub record IsNearOffset (bits offset : ℕ) : Type 0 where
  pub near : is_near offset ≡ true
  pub low : offset % 2 ^ 16 ≡ bits

pub near_offset : (at bits : ℕ) → IsU2 bits → IsNearOffset bits (offset_of at (target_of at (cast_signed w16 bits)))
near_offset at bits fits =
    elim (cases_lt bits (2 ^ 15)) [
      | inl small ↦
          let same = ap (λ n. offset_of at ((at + n) % 2 ^ 32)) (low_bits bits small) ∙ back_and_there at bits (omega arith) in
          record { near = ap is_near same ∙ near_low bits small; low = ap (λ n. n % 2 ^ 16) same ∙ omega arith }
      | inr large ↦
          let far = bits + (2 ^ 32 - 2 ^ 16) in
          let same = ap (λ n. offset_of at ((at + n) % 2 ^ 32)) (high_bits bits large fits) ∙ back_and_there at far (omega arith) in
          record { near = ap is_near same ∙ near_high far (omega arith); low = ap (λ n. n % 2 ^ 16) same ∙ omega arith }
    ]
