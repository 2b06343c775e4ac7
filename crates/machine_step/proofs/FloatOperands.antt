-- An operation of float and double has one operand or two.
use Rattle.std.proofs.Common.{◌≡◌, ℕ, List, [], ◌∷◌, length, refl, arith}
use Rattle.machine_values.specs.declared.value.Value.{Value}
use Rattle.member_link.specs.Machine.Completions.{ends}
use Rattle.member_link.specs.Machine.Work.{float_work}
use Rattle.member_link.specs.Machine.Worlds.{stuck}
use Rattle.member_link.specs.Rows.ArithmeticRows.{float_operations, operation_in}

of_none :
    (opcode : ℕ) → ends stuck ≡ float_work opcode (operation_in float_operations opcode) []
of_none opcode = grind arith

of_many :
    (opcode : ℕ) (one two three : Value) (rest : List Value)
    → ends stuck
    ≡ float_work opcode (operation_in float_operations opcode) (one ∷ two ∷ three ∷ rest)
of_many opcode one two three rest = grind arith

pub not_asked :
    (opcode : ℕ) (operands : List Value) → (length operands ≡ 1 → ⊥)
    → (length operands ≡ 2 → ⊥)
    → ends stuck ≡ float_work opcode (operation_in float_operations opcode) operands
not_asked opcode [] not_one not_two = of_none opcode
not_asked opcode (one ∷ []) not_one not_two = absurd (not_one refl)
not_asked opcode (one ∷ two ∷ []) not_one not_two = absurd (not_two refl)
not_asked opcode (one ∷ two ∷ three ∷ rest) not_one not_two = of_many opcode one two three rest
