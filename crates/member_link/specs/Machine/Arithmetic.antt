-- Arithmetic of int and long, and comparisons, by opcode (JVM Specification SE 8, 2.11.3, 2.11.4, 2.11.7 and 6.5). It wraps around;
-- shifts use the low five or six bits.
use Rattle.std.specs.Prelude.{◌%◌, ◌/◌, ◌^◌, ◌==◌, ◌&&◌, not, ℕ, ℤ, pos, negsuc, int_lt, int_le, int_rem, Bool, List, [], ◌∷◌, Option, Some, None, if◌then◌else◌}
use Rattle.std.specs.Int.{Width, w8, w16, w32, w64, cast_signed, cast_unsigned, int_wrapping_add, int_wrapping_sub, int_wrapping_mul, int_wrapping_div, int_wrapping_neg, int_shl, int_shr, int_bit_and, int_bit_or, int_bit_xor}
use Rattle.class_model.specs.declared.opcodes.TheConstants.{IADD, LADD, ISUB, LSUB, IMUL, LMUL, IDIV, LDIV, IREM, LREM, INEG, LNEG, ISHL, LSHL, ISHR, LSHR, IUSHR, LUSHR, IAND, LAND, IOR, LOR, IXOR, LXOR, I2L, L2I, I2B, I2C, I2S, LCMP}
use Rattle.machine_values.specs.declared.value.Value.{Value}
use Rattle.machine_values.specs.declared.value.Value.TheVariants.{Int, Long}

-- what an operation does, by the kinds of its operands
pub data Meaning : Type 0 where
  of_ints : (ℤ → ℤ → ℤ) → Meaning
  of_longs : (ℤ → ℤ → ℤ) → Meaning
  of_long_and_int : (ℤ → ℤ → ℤ) → Meaning
  of_int : (ℤ → ℤ) → Meaning
  of_long : (ℤ → ℤ) → Meaning
  int_to_long : (ℤ → ℤ) → Meaning
  long_to_int : (ℤ → ℤ) → Meaning
  longs_to_int : (ℤ → ℤ → ℤ) → Meaning

pub record MeaningRow : Type 0 where
  pub opcode : ℕ
  pub meaning : Meaning

abbrev pub row : ℕ → Meaning → MeaningRow
row opcode meaning = record { opcode = opcode; meaning = meaning }

-- ---- numbers

-- how far a shift of ints goes, and of longs
abbrev pub int_distance : ℤ → ℕ
int_distance by = cast_unsigned w32 by % 32

abbrev pub long_distance : ℤ → ℕ
long_distance by = cast_unsigned w32 by % 64

-- a shift to the right that fills with zeros
abbrev pub unsigned_shr : Width → ℤ → ℕ → ℤ
unsigned_shr width number by = cast_signed width (cast_unsigned width number / 2 ^ by)

-- the low bits of a number, with their sign
abbrev pub low_bits : Width → ℤ → ℕ → ℤ
low_bits width number count = cast_signed width (cast_unsigned w64 number % 2 ^ count)

-- -1, 0 or 1
abbrev pub comparison : ℤ → ℤ → ℤ
comparison one other =
    if int_lt one other then negsuc 0 else (if int_lt other one then pos 1 else pos 0)

-- ---- operations that raise nothing

abbrev pub pure_meanings : List MeaningRow
pure_meanings =
    row IADD (of_ints (int_wrapping_add w32))
    ∷ row LADD (of_longs (int_wrapping_add w64))
    ∷ row ISUB (of_ints (int_wrapping_sub w32))
    ∷ row LSUB (of_longs (int_wrapping_sub w64))
    ∷ row IMUL (of_ints (int_wrapping_mul w32))
    ∷ row LMUL (of_longs (int_wrapping_mul w64))
    ∷ row INEG (of_int (int_wrapping_neg w32))
    ∷ row LNEG (of_long (int_wrapping_neg w64))
    ∷ row ISHL (of_ints (λ number by. int_shl w32 number (int_distance by)))
    ∷ row LSHL (of_long_and_int (λ number by. int_shl w64 number (long_distance by)))
    ∷ row ISHR (of_ints (λ number by. int_shr number (int_distance by)))
    ∷ row LSHR (of_long_and_int (λ number by. int_shr number (long_distance by)))
    ∷ row IUSHR (of_ints (λ number by. unsigned_shr w32 number (int_distance by)))
    ∷ row LUSHR (of_long_and_int (λ number by. unsigned_shr w64 number (long_distance by)))
    ∷ row IAND (of_ints (int_bit_and w32))
    ∷ row LAND (of_longs (int_bit_and w64))
    ∷ row IOR (of_ints (int_bit_or w32))
    ∷ row LOR (of_longs (int_bit_or w64))
    ∷ row IXOR (of_ints (int_bit_xor w32))
    ∷ row LXOR (of_longs (int_bit_xor w64))
    ∷ row I2L (int_to_long (λ number. number))
    ∷ row L2I (long_to_int (λ number. low_bits w32 number 32))
    ∷ row I2B (of_int (λ number. cast_signed w8 (cast_unsigned w32 number % 2 ^ 8)))
    ∷ row I2C (of_int (λ number. pos (cast_unsigned w32 number % 2 ^ 16)))
    ∷ row I2S (of_int (λ number. cast_signed w16 (cast_unsigned w32 number % 2 ^ 16)))
    ∷ row LCMP (longs_to_int comparison)
    ∷ []

-- ---- divisions, whose divisor is not zero: the least number divided by -1 is itself, with the remainder 0

abbrev pub divide_meanings : List MeaningRow
divide_meanings =
    row IDIV (of_ints (int_wrapping_div w32))
    ∷ row LDIV (of_longs (int_wrapping_div w64))
    ∷ row IREM (of_ints int_rem)
    ∷ row LREM (of_longs int_rem)
    ∷ []

abbrev pub meaning_in : List MeaningRow → ℕ → Option Meaning
meaning_in [] opcode = None
meaning_in (first ∷ others) opcode =
    if first.opcode == opcode then Some first.meaning else meaning_in others opcode

-- what an operation gives of its operands, the topmost last; nothing for operands of other kinds
abbrev pub result_by : Meaning → List Value → Option Value
result_by (of_ints f) (Int one ∷ Int other ∷ []) = Some (Int (f one other))
result_by (of_longs f) (Long one ∷ Long other ∷ []) = Some (Long (f one other))
result_by (of_long_and_int f) (Long one ∷ Int other ∷ []) = Some (Long (f one other))
result_by (of_int f) (Int number ∷ []) = Some (Int (f number))
result_by (of_long f) (Long number ∷ []) = Some (Long (f number))
result_by (int_to_long f) (Int number ∷ []) = Some (Long (f number))
result_by (long_to_int f) (Long number ∷ []) = Some (Int (f number))
result_by (longs_to_int f) (Long one ∷ Long other ∷ []) = Some (Int (f one other))
result_by meaning operands = None

-- how many operands it takes
abbrev pub operands_of : Option Meaning → ℕ
operands_of (Some (of_int f)) = 1
operands_of (Some (of_long f)) = 1
operands_of (Some (int_to_long f)) = 1
operands_of (Some (long_to_int f)) = 1
operands_of other = 2

-- ---- comparisons of conditional jumps

-- eq, ne, lt, ge, gt and le, counted from the first of their form
abbrev pub holds_for : ℕ → ℤ → ℤ → Option Bool
holds_for number one other =
    if number == 0 then Some (same one other)
    else (if number == 1 then Some (not (same one other))
    else (if number == 2 then Some (int_lt one other)
    else (if number == 3 then Some (int_le other one)
    else (if number == 4 then Some (int_lt other one)
    else (if number == 5 then Some (int_le one other)
    else None))))) where
      same : ℤ → ℤ → Bool
      same one other = int_le one other && int_le other one
