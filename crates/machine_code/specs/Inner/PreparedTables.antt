-- Tables of prepared methods: each at the number of its class and its own.
use Rattle.std.specs.Global.{Vec, Box}
use Rattle.std.specs.Prelude.{◌≡◌, ◌⊎◌, ℕ, List, Option, Some, slice_get, option_and_then}
use Rattle.std.specs.Option.{option_flatten}
use Rattle.class_model.specs.declared.class_file.MethodAt.{MethodAt}
use Rattle.class_tree.specs.Headers.{Classes}
use Rattle.member_link.specs.Machine.Programs.{Program}
use Rattle.machine_code.specs.Prepared.{IsPrepared}
use Rattle.member_link.specs.TreePrograms.{IsProgram}
use Rattle.machine_code.specs.declared.prepared_method.PreparedMethod.{PreparedMethod}

-- a method that may be prepared
abbrev pub Slot : Type 0
Slot = Option (Box PreparedMethod)

abbrev pub slot_in : List Slot → ℕ → Slot
slot_in slots method = option_flatten (slice_get slots method)

abbrev pub slot_at : List (Vec Slot) → MethodAt → Slot
slot_at table at =
    option_flatten (option_and_then (λ slots. slice_get slots.items at.method)
    (slice_get table at.class))

-- what a table has is prepared
pub record ArePrepared (classes : Classes) (table : List (Vec Slot)) : Type 0 where
  pub each : (at : MethodAt) (method : Box PreparedMethod)
      → slot_at table at ≡ Some method
      → (P : Program)
      → IsProgram classes P
      → IsPrepared P at method.value

-- what the one list has, the other had
pub record HasOnly (before after : List Slot) : Type 0 where
  pub each : (at : ℕ) (method : Box PreparedMethod)
      → slot_in after at ≡ Some method
      → slot_in before at ≡ Some method

-- what the one table has, the other had
pub record KeepsOnly (before after : List (Vec Slot)) : Type 0 where
  pub each : (at : MethodAt) (method : Box PreparedMethod)
      → slot_at after at ≡ Some method
      → slot_at before at ≡ Some method

-- what the one list has, is what was put there, or the other had it
pub record IsPut (before after : List Slot) (number : ℕ) (put : Box PreparedMethod) : Type 0 where
  pub each : (at : ℕ) (method : Box PreparedMethod)
      → slot_in after at ≡ Some method
      → ((at ≡ number) × (method ≡ put)) ⊎ (slot_in before at ≡ Some method)

-- what the one table has, is what was put there, or the other had it
pub record IsPutIn (before after : List (Vec Slot)) (place : MethodAt) (put : Box PreparedMethod)
    : Type 0 where
  pub each : (at : MethodAt) (method : Box PreparedMethod)
      → slot_at after at ≡ Some method
      → ((at ≡ place) × (method ≡ put)) ⊎ (slot_at before at ≡ Some method)
