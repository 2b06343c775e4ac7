-- Words of what the library does with arrays.
use Rattle.std.specs.Prelude.{◌==◌, ◌||◌, not, ℕ, ℤ, Bool, false, List, [], ◌∷◌, slice_get, Option, Some, None, option_and_then, if◌then◌else◌}
use Rattle.class_model.specs.Characters.{dot, slash, semicolon, left_bracket}
use Rattle.class_model.specs.declared.descriptor.FieldType.{FieldType}
use Rattle.class_tree.specs.Headers.{Name}
use Rattle.machine_values.specs.Heaps.{Heap, with_value}
use Rattle.machine_values.specs.Values.{narrowed}
use Rattle.machine_values.specs.declared.object.Shape.{Shape}
use Rattle.machine_values.specs.declared.object.Shape.TheVariants.{Array}
use Rattle.machine_values.specs.declared.value.Value.{Value}
use Rattle.member_link.specs.Machine.Acting.{fault, shows_new}
use Rattle.member_link.specs.Machine.ArraySteps.{blank_array, index_in}
use Rattle.member_link.specs.Machine.Programs.{Program}
use Rattle.member_link.specs.Machine.Shapes.{value_conforms}
use Rattle.member_link.specs.Machine.Showing.{shows_length}
use Rattle.member_link.specs.Machine.Worlds.{World, with_heap}
use Rattle.machine_run.specs.declared.acting.arrays.Written.{Written}

-- an element of an array by its index, if it has one
abbrev pub element_in : List Value → ℤ → Shape → Option Value
element_in values index (Array desc len) = option_and_then (slice_get values) (index_in index len)
element_in values index shape = None

-- the length of an array
abbrev pub length_in : Shape → Option ℕ
length_in (Array desc len) = Some len
length_in shape = None

abbrev pub with_length : World → Option ℕ → World
with_length w None = fault w
with_length w (Some len) = shows_length w len

-- a value as it is kept at a type, if it conforms to the type
abbrev pub narrowed_value : Program → Heap → FieldType → Value → Option Value
narrowed_value P heap type value =
    if value_conforms P heap type value then Some (narrowed type value) else None

-- an element is written, or the action is a fault
abbrev pub with_written : World → Option Written → World
with_written w None = fault w
with_written w (Some written) =
    record w {
      memory = with_heap w.memory
          (with_value w.memory.heap written.reference written.number written.value);
    }

-- an array of so many elements is made, or the action is a fault
abbrev pub with_array : Program → World → Name → Option ℕ → World
with_array P w desc None = fault w
with_array P w desc (Some count) = shows_new P w (blank_array w.memory.heap desc count)

-- a byte may stand in names joined by slashes; the test says that a name begins
abbrev pub may_stand : Bool → ℕ → Bool
may_stand begins byte =
    if byte == slash then not begins
    else not (byte == dot || (byte == semicolon || byte == left_bracket))

-- a text ends in a semicolon
abbrev pub ends_class : List ℕ → Bool
ends_class [] = false
ends_class (last ∷ []) = last == semicolon
ends_class (byte ∷ others) = ends_class others
