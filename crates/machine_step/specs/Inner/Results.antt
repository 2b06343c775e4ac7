-- What an operation gives of its operands, and what a division comes to.
use Rattle.std.specs.Prelude.{ℕ, Bool, true, false, List, [], ◌∷◌, Option, option_and_then}
use Rattle.machine_values.specs.declared.value.Value.{Value}
use Rattle.member_link.specs.Machine.Arithmetic.{meaning_in, pure_meanings, result_by}
use Rattle.member_link.specs.Machine.Completions.{Completion, gives, raises, asks, ends, asks_float}
use Rattle.member_link.specs.Machine.Throwables.{arithmetic}
use Rattle.member_link.specs.Machine.Worlds.{Memory, stuck}
use Rattle.machine_step.specs.declared.arithmetic.Divided.{Divided}
use Rattle.machine_step.specs.declared.arithmetic.Divided.TheVariants.{Gives, ByZero, Stuck}

-- of an opcode and its operands
abbrev pub pure_result : ℕ → List Value → Option Value
pure_result opcode operands =
    option_and_then (λ meaning. result_by meaning operands) (meaning_in pure_meanings opcode)

abbrev pub completion_of : Memory → Divided → Completion
completion_of memory (Gives value) = gives memory (value ∷ [])
completion_of memory ByZero = raises arithmetic
completion_of memory Stuck = ends stuck

-- floats and doubles are the library's, if the operands are of the kinds of the operation
abbrev pub asked_if : Bool → ℕ → List Value → Completion
asked_if true opcode operands = asks (asks_float opcode operands)
asked_if false opcode operands = ends stuck
