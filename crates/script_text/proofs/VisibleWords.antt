-- Printed texts and numbers are visible: each byte is above the space.
use Rattle.std.proofs.Common.{◌≡◌, inl, inr, ◌∷◌, [], ◌/◌, ◌%◌, ◌^◌, ◌<◌, ℕ, zero, suc, ℤ, pos, negsuc, true, List, decimal}
use Rattle.std.proofs.Common.{FitsSigned, sym, subst, arith}
use Rattle.std.specs.Fmt.{signed_decimal}
use Rattle.std.specs.Int.{w64}
use Rattle.std.specs.List.{flat_map}
use Rattle.std.specs.Str.Parse.{AllDigits}
use Rattle.std.proofs.lemmas.Bool.Decides.{nat_tests}
use Rattle.std.proofs.lemmas.Fmt.{decimal_is_IsNumeral}
use Rattle.std.proofs.lemmas.Str.Parse.{digit_from_value}
use Rattle.script_text.specs.PrintedTexts.{hex_digit, hex_text, is_plain_byte, printed_byte, printed_text}
use Rattle.script_text.proofs.PrintedBytes.{plain_or_not, plain_form, escaped_form}
use Rattle.script_text.proofs.PrintedTexts.{TextForm, empty_text, dash_text, other_text, text_form}
use Rattle.script_text.proofs.SpacedLines.{Above, above-append}

-- ---- texts

digit_above : (digit : ℕ) → 32 < hex_digit digit
digit_above digit = grind (arith, nat_tests)

plain_above : (byte : ℕ) → is_plain_byte byte ≡ true → 32 < byte
plain_above byte plain = grind (arith, nat_tests)

byte_above : (byte : ℕ) → Above 32 (printed_byte byte)
byte_above byte = elim (plain_or_not byte) [
  | inl plain ↦ subst (Above 32) (sym (plain_form byte plain)) (plain_above byte plain, tt)
  | inr other ↦ subst (Above 32) (sym (escaped_form byte other)) (omega arith, (digit_above (byte / 16 % 16), (digit_above (byte % 16), tt)))
]

bytes_above : (bytes : List ℕ) → Above 32 (flat_map printed_byte bytes)
bytes_above [] = tt
bytes_above (byte ∷ bytes) = above-append 32 (printed_byte byte) (flat_map printed_byte bytes) (byte_above byte) (bytes_above bytes)

by_form : (text : List ℕ) → TextForm text → Above 32 (printed_text text)
by_form text empty_text = (omega arith, tt)
by_form text dash_text = (omega arith, (omega arith, (omega arith, tt)))
by_form text (other_text some other is) = subst (Above 32) (sym is) (bytes_above text)

pub text_above : (text : List ℕ) → Above 32 (printed_text text)
text_above text = by_form text (text_form text)

-- ---- numbers

pub hex_above : (count number : ℕ) → Above 32 (hex_text count number)
hex_above zero number = tt
hex_above (suc count) number =
    above-append 32 (hex_text count (number / 16)) (hex_digit (number % 16) ∷ []) (hex_above count (number / 16)) (digit_above (number % 16), tt)

digits_above : (digits : List ℕ) → AllDigits 10 digits → Above 32 digits
digits_above [] each = tt
digits_above (digit ∷ digits) each = (omega (arith, digit_from_value digit each.0), digits_above digits each.1)

pub decimal_above : (number : ℕ) → number < 2 ^ 64 → Above 32 (decimal number)
decimal_above number small = digits_above (decimal number) (decimal_is_IsNumeral number small).0.1

pub integer_above : (number : ℤ) → FitsSigned w64 number → Above 32 (signed_decimal number)
integer_above (pos number) fits = decimal_above number (omega (arith, fits.sfits))
integer_above (negsuc number) fits = (omega arith, decimal_above (suc number) (omega (arith, fits.sfits)))
