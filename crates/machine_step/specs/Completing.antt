-- What a completion of the code is among those of the definition.
use Rattle.std.specs.Prelude.{◌≡◌, List, [], ◌∷◌, Option, Some, None}
use Rattle.machine_values.specs.declared.value.Value.{Value}
use Rattle.member_link.specs.Machine.Completions as made
use Rattle.member_link.specs.Machine.Completions.{Completion}
use Rattle.member_link.specs.Machine.Worlds as halts
use Rattle.member_link.specs.Machine.Worlds.{Memory}
use Rattle.member_link.specs.RunOps.{throwable_name}
use Rattle.machine_step.specs.declared.completed.Asked.{Asked}
use Rattle.machine_step.specs.declared.completed.Asked.TheVariants as asked
use Rattle.machine_step.specs.declared.completed.Completed.{Completed}
use Rattle.machine_step.specs.declared.completed.Completed.TheVariants as completed

abbrev pub asked_of : List Value → Asked → made.Asked
asked_of operands (asked.Call method) = made.asks_call method operands
asked_of operands (asked.Dynamic class bootstrap name desc) =
    made.asks_dynamic class bootstrap name desc operands
asked_of operands (asked.Get field receiver) = made.asks_get field receiver
asked_of operands (asked.Put field receiver value) = made.asks_put field receiver value
asked_of operands (asked.Float opcode) = made.asks_float opcode operands

abbrev pub values_of : Option Value → List Value
values_of None = []
values_of (Some value) = value ∷ []

-- with the memory behind the operation, and its operands
abbrev pub completion_of : Memory → List Value → Completed → Completion
completion_of memory operands (completed.Gives value) = made.gives memory (values_of value)
completion_of memory operands (completed.Raises throwable) = made.raises (throwable_name throwable)
completion_of memory operands (completed.Throws reference) = made.throws reference
completion_of memory operands (completed.Begins class) = made.begins class
completion_of memory operands (completed.Calls at) = made.calls at operands
completion_of memory operands (completed.Asks asked) = made.asks (asked_of operands asked)
completion_of memory operands completed.Stuck = made.ends halts.stuck
completion_of memory operands completed.ArrayTooLong = made.ends halts.array_too_long

-- what comes to anything but Gives leaves the memory as it was
abbrev pub Keeps : Memory → Memory → Completed → Type 0
Keeps before after (completed.Gives value) = Unit {0}
Keeps before after completed = after ≡ before

-- an operation comes to this: its completion by the definition, and the memory before and behind it
pub record Completes (before after : Memory) (operands : List Value) (completed : Completed)
    (completion : Completion)
    : Type 0 where
  pub same : completion ≡ completion_of after operands completed
  pub keeps : Keeps before after completed
