-- The locals of a frame, as the code asks and changes them.
use Rattle.std.specs.Prelude.{ℕ, ℤ, Bool, true, false, List, Option, Some, None, option_and_then}
use Rattle.class_model.specs.declared.descriptor.Kind.TheVariants as kinds
use Rattle.machine_values.specs.Values.{is_wide_value}
use Rattle.machine_values.specs.declared.value.Value.{Value}
use Rattle.member_link.specs.Machine.Locals.{local_value, stored, incremented}

-- a long or double begins in a unit
abbrev pub begins_wide : Option (Option Value) → Bool
begins_wide (Some (Some value)) = is_wide_value value
begins_wide unit = false

-- the locals behind iinc
abbrev pub incremented_at : ℕ → ℤ → List (Option Value) → Option (List (Option Value))
incremented_at at by locals =
    option_and_then (λ value. stored at (incremented by value) locals)
    (local_value kinds.Int locals at)

-- what is there after a change that was made or not
abbrev pub written : {X : Type 0} → Bool → X → Option X
written true units = Some units
written false units = None
