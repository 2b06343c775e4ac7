-- The low bits of a number: that a narrowed value is narrow, and what the lowest bit is.
use Rattle.std.proofs.Common.{◌≡◌, ◌⊎◌, ◌<◌, ◌+◌, ◌-◌, ◌*◌, ◌/◌, ◌%◌, ◌^◌, ℕ, suc, ℤ, pos, negsuc, refl, ap, ◌∙◌, arith, inl, inr}
use Rattle.std.specs.Int.{w8, w16, w32, cast_signed, cast_unsigned, int_bit_and}
use Rattle.std.proofs.lemmas.Int.{to_z-of_z, to_z_pos}
use Rattle.std.proofs.lemmas.Nat.Bits.{and_pow, bit_at_lowest}
use Rattle.class_model.specs.declared.descriptor.FieldType.{FieldType}
use Rattle.class_model.specs.declared.descriptor.FieldType.TheVariants as types
use Rattle.machine_values.specs.Values.{narrowed}
use Rattle.machine_values.specs.declared.value.Value.{Value}
use Rattle.machine_values.specs.declared.value.Value.TheVariants.{Int}
use Rattle.written_runs.specs.Laws.Templates.Stacks.{split_place}

-- a byte with its sign has the bits of the byte
low_byte : (bits : ℕ) → bits < 2 ^ 8 → cast_unsigned w32 (cast_signed w8 bits) % 2 ^ 8 ≡ bits
low_byte bits small = by (split_place bits 128) where
  by : (bits < 128) ⊎ ((more : ℕ) × (bits ≡ 128 + more)) → cast_unsigned w32 (cast_signed w8 bits) % 2 ^ 8 ≡ bits
  by (inl low) = ap (λ (z : ℤ). cast_unsigned w32 z % 2 ^ 8) (to_z_pos w8 bits low) ∙ omega (arith, small)
  by (inr (more, high)) =
      let same : bits ≡ 2 ^ 8 - suc (127 - more) = omega (arith, small, high) in
      ap (λ (n : ℕ). cast_unsigned w32 (cast_signed w8 n) % 2 ^ 8) same
      ∙ ap (λ (z : ℤ). cast_unsigned w32 z % 2 ^ 8) (to_z-of_z w8 (negsuc (127 - more)) (record { sfits = omega arith }))
      ∙ omega (arith, small, high)

low_short : (bits : ℕ) → bits < 2 ^ 16 → cast_unsigned w32 (cast_signed w16 bits) % 2 ^ 16 ≡ bits
low_short bits small = by (split_place bits 32768) where
  by : (bits < 32768) ⊎ ((more : ℕ) × (bits ≡ 32768 + more)) → cast_unsigned w32 (cast_signed w16 bits) % 2 ^ 16 ≡ bits
  by (inl low) = ap (λ (z : ℤ). cast_unsigned w32 z % 2 ^ 16) (to_z_pos w16 bits low) ∙ omega (arith, small)
  by (inr (more, high)) =
      let same : bits ≡ 2 ^ 16 - suc (32767 - more) = omega (arith, small, high) in
      ap (λ (n : ℕ). cast_unsigned w32 (cast_signed w16 n) % 2 ^ 16) same
      ∙ ap (λ (z : ℤ). cast_unsigned w32 z % 2 ^ 16) (to_z-of_z w16 (negsuc (32767 - more)) (record { sfits = omega arith }))
      ∙ omega (arith, small, high)

pub narrowed_again : (type : FieldType) (value : Value) → narrowed type (narrowed type value) ≡ narrowed type value
narrowed_again types.Byte (Int number) =
    ap (λ (bits : ℕ). Int (cast_signed w8 bits)) (low_byte (cast_unsigned w32 number % 2 ^ 8) (omega arith))
narrowed_again types.Short (Int number) =
    ap (λ (bits : ℕ). Int (cast_signed w16 bits)) (low_short (cast_unsigned w32 number % 2 ^ 16) (omega arith))
narrowed_again types.Char (Int number) =
    let same : cast_unsigned w32 number % 2 ^ 16 % 2 ^ 16 ≡ cast_unsigned w32 number % 2 ^ 16 = omega arith in ap (λ (bits : ℕ). Int (pos bits)) same
narrowed_again types.Bool (Int number) =
    let same : cast_unsigned w32 number % 2 % 2 ≡ cast_unsigned w32 number % 2 = omega arith in ap (λ (bits : ℕ). Int (pos bits)) same
narrowed_again type value = refl

pub lowest_bit : (number : ℤ) → int_bit_and w32 number (pos 1) ≡ pos (cast_unsigned w32 number % 2)
lowest_bit number =
    ap (cast_signed w32) (and_pow (cast_unsigned w32 number) 0 ∙ once ∙ bit_at_lowest (cast_unsigned w32 number))
    ∙ to_z_pos w32 (cast_unsigned w32 number % 2) (omega arith) where
      once : (cast_unsigned w32 number / 2 ^ 0 % 2) * 2 ^ 0 ≡ cast_unsigned w32 number / 2 ^ 0 % 2
      once = omega arith
