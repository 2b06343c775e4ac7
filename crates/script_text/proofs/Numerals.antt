-- Numbers in decimal are text.
use Rattle.std.proofs.Common.{◌≡◌, ◌∷◌, [], ◌==◌, ℕ, zero, suc, Bool, true, false, List, sym, refl, subst, arith, if◌then◌else◌}
use Rattle.std.proofs.lemmas.Bool.{eqb-true}
use Rattle.std.proofs.lemmas.Fmt.{IsAscii-from_digits}
use Rattle.std.proofs.lemmas.Str.{IsUtf8-from_ascii, IsAscii-append}
use Rattle.std.specs.Str.{IsAscii, IsUtf8}
use Rattle.std.specs.Str.Parse.{IsNumeral}
use Rattle.script_text.specs.Scripts.{without_minus}

dash_ascii : IsAscii (45 ∷ [])
dash_ascii zero = omega arith
dash_ascii (suc i) = omega arith

with_sign : (first : ℕ) (rest : List ℕ) (minus : Bool) → (first == 45) ≡ minus → IsNumeral 10 (if minus then rest else (first ∷ rest)) → IsAscii (first ∷ rest)
with_sign first rest true is digits =
    subst (λ (n : ℕ). IsAscii (n ∷ rest)) (sym (eqb-true first 45 is)) (IsAscii-append (45 ∷ []) rest dash_ascii (IsAscii-from_digits rest digits.1))
with_sign first rest false is digits = IsAscii-from_digits (first ∷ rest) digits.1

pub numeral_is_text : (word : List ℕ) → IsNumeral 10 (without_minus word) → IsUtf8 word
numeral_is_text [] digits = absurd (omega (arith, digits.0))
numeral_is_text (first ∷ rest) digits = IsUtf8-from_ascii (first ∷ rest) (with_sign first rest (first == 45) refl digits)
