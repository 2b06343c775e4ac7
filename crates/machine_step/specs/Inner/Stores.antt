-- What stores of elements come to.
use Rattle.std.specs.Prelude.{◌≡◌, ℕ, List, []}
use Rattle.machine_values.specs.declared.value.Value.{Value}
use Rattle.machine_values.specs.Heaps.{with_value}
use Rattle.member_link.specs.Machine.Completions.{Completion, gives}
use Rattle.member_link.specs.Machine.Worlds.{Memory, with_heap}
use Rattle.machine_step.specs.Completing.{Completes}
use Rattle.machine_step.specs.declared.completed.Completed.{Completed}
use Rattle.machine_step.specs.declared.elements.Placed.{Placed}

-- a value is put at an index of an object's values
abbrev pub IsPlaced : Memory → ℕ → Placed → Completion → Type 0
IsPlaced memory at placed completion =
    completion
    ≡ gives (with_heap memory (with_value memory.heap at placed.index placed.value)) []

-- nothing is written
abbrev pub IsRefused : Memory → Completed → Completion → Type 0
IsRefused memory completed completion =
    (operands : List Value) → Completes memory memory operands completed completion
