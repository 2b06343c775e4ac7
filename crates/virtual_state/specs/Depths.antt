-- How often the monitor of a virtual object is entered.
use Rattle.std.specs.Prelude.{◌==◌, ℕ, map, Option, if◌then◌else◌}
use Rattle.std.specs.Option.{option_map}
use Rattle.virtual_state.specs.States.{State, object_of}
use Rattle.virtual_state.specs.declared.slot.VObject.{VObject}

-- how often the monitor of a site's object is entered
abbrev pub depth_of : State → ℕ → Option ℕ
depth_of state site = option_map (λ object. object.depth) (object_of state.objects site)

-- an object, where the depth is changed if it is of this site
abbrev pub object_with_depth : ℕ → (ℕ → ℕ) → VObject → VObject
object_with_depth site change object =
    if object.site == site then record object { depth = change object.depth } else object

-- the state where the depth of one site is changed
abbrev pub with_depth : State → ℕ → (ℕ → ℕ) → State
with_depth state site change =
    record state { objects = map (object_with_depth site change) state.objects }
