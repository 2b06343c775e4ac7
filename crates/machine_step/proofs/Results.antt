-- An operation of int and long has one operand or two.
use Rattle.std.proofs.Common.{◌≡◌, Option, Some, None, List, [], ◌∷◌, length, refl, arith}
use Rattle.std.specs.Prelude.{option_and_then}
use Rattle.machine_values.specs.declared.value.Value.{Value}
use Rattle.machine_values.specs.declared.value.Value.TheVariants.{Int}
use Rattle.member_link.specs.Machine.Arithmetic.{Meaning, of_ints, result_by}

of_none : (meaning : Meaning) → None ≡ result_by meaning []
of_none meaning = grind arith

of_many :
    (meaning : Meaning) (one two three : Value) (rest : List Value)
    → None ≡ result_by meaning (one ∷ two ∷ three ∷ rest)
of_many (of_ints f) (Int one) (Int two) three rest = refl
of_many (of_ints f) (Int one) two three rest = grind arith
of_many (of_ints f) one two three rest = grind arith
of_many meaning one two three rest = grind arith

pub no_result :
    (meaning : Option Meaning) (operands : List Value) → (length operands ≡ 1 → ⊥)
    → (length operands ≡ 2 → ⊥)
    → None ≡ option_and_then (λ meaning. result_by meaning operands) meaning
no_result None operands not_one not_two = refl
no_result (Some meaning) [] not_one not_two = of_none meaning
no_result (Some meaning) (one ∷ []) not_one not_two = absurd (not_one refl)
no_result (Some meaning) (one ∷ two ∷ []) not_one not_two = absurd (not_two refl)
no_result (Some meaning) (one ∷ two ∷ three ∷ rest) not_one not_two =
    of_many meaning one two three rest
