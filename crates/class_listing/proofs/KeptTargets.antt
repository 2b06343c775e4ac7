-- Targets and keys of instructions, as signed numbers.
use Rattle.std.proofs.Common.{◌≡◌, ℕ, ◌+◌, ◌-◌, ◌%◌, ◌^◌, ◌<◌, ltb, Bool, true, false, not, List, w16, w32, refl, sym, ap, subst, ◌∙◌, arith}
use Rattle.std.specs.Prelude.{ℤ, pos, int_lt, ◌+ℤ◌, ◌≤ℤ◌, FitsSigned}
use Rattle.std.specs.Int.{cast_signed, cast_unsigned}
use Rattle.std.specs.Int.Signed.{lt_z_no}
use Rattle.std.proofs.lemmas.Bool.{ltb-true, ltb-false}
use Rattle.std.proofs.lemmas.Int.{ints, to_z-of_z}
use Rattle.std.proofs.Math.Dec.{T}
use Rattle.class_model.specs.Instructions.{target_of, span, s2_in, s4_in, u2_in, u4_in}
use Rattle.code_bytes.specs.Forms.{offset_of}
use Rattle.class_listing.specs.Inner.InstrWords.{kept_target}

-- ---- signed numbers of two and four bytes

near_fits : (n : ℕ) → FitsSigned w32 (cast_signed w16 n)
near_fits n = by (ltb n (2 ^ 15)) refl where
  by : (test : Bool) → ltb n (2 ^ 15) ≡ test → FitsSigned w32 (cast_signed w16 n)
  by true is = let small = ltb-true n (2 ^ 15) is in rw is (record { sfits = omega (arith, small) })
  by false is = rw is (record { sfits = omega arith })

far_fits : (n : ℕ) → FitsSigned w32 (cast_signed w32 n)
far_fits n = by (ltb n (2 ^ 31)) refl where
  by : (test : Bool) → ltb n (2 ^ 31) ≡ test → FitsSigned w32 (cast_signed w32 n)
  by true is = let small = ltb-true n (2 ^ 31) is in rw is (record { sfits = omega (arith, small) })
  by false is = let large = ltb-false n (2 ^ 31) is in rw is (record { sfits = omega (arith, large) })

pub s2_fits : (bytes : List ℕ) (at : ℕ) → FitsSigned w32 (s2_in bytes at)
s2_fits bytes at = near_fits (u2_in bytes at)

pub s4_fits : (bytes : List ℕ) (at : ℕ) → FitsSigned w32 (s4_in bytes at)
s4_fits bytes at = far_fits (u4_in bytes at)

-- ---- targets

back_and_there : (at bits : ℕ) → bits < 2 ^ 32 → offset_of at ((at + bits) % 2 ^ 32) ≡ bits
back_and_there at bits fits = omega arith

bits_fit : (number : ℤ) → FitsSigned w32 number → cast_unsigned w32 number < 2 ^ 32
bits_fit number fits = omega (arith, ints)

-- what is kept of a target gives it back
pub target_kept : (at : ℕ) (offset : ℤ) → FitsSigned w32 offset → kept_target at (target_of at offset) ≡ pos at +ℤ offset
target_kept at offset fits =
    ap (λ (z : ℤ). pos at +ℤ z)
    (ap (cast_signed w32) (back_and_there at (cast_unsigned w32 offset) (bits_fit offset fits)) ∙ to_z-of_z w32 offset fits)

-- ---- keys

at_least : (low high : ℤ) → int_lt high low ≡ false → low ≤ℤ high
at_least low high is = lt_z_no (subst (λ (b : Bool). T (not b)) (sym is) tt)

high_is : (low high : ℤ) (count : ℕ) → FitsSigned w32 low → FitsSigned w32 high → low ≤ℤ high → span low high ≡ count → low +ℤ pos (count - 1) ≡ high
high_is low high count low_fits high_fits least counted = omega (arith, ints)

pub high_key : (low high : ℤ) (count : ℕ) → FitsSigned w32 low → FitsSigned w32 high → int_lt high low ≡ false → span low high ≡ count → low +ℤ pos (count - 1) ≡ high
high_key low high count low_fits high_fits ordered counted =
    high_is low high count low_fits high_fits (at_least low high ordered) counted
