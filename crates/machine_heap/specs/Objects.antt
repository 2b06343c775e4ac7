-- Objects of a heap and their values.
use Rattle.std.specs.Prelude.{ℕ, ◌<◌, length, slice_get, Option, option_and_then}
use Rattle.std.specs.List.{AllByRecursion}
use Rattle.machine_values.specs.Heaps.{Heap, object_at}
use Rattle.machine_values.specs.declared.value.Value.{Value}

-- the value of a field or element, by the object's reference and the number of the value
abbrev pub value_at : Heap → ℕ → ℕ → Option Value
value_at heap reference index =
    option_and_then (λ object. slice_get object.values index) (object_at heap reference)

-- the references of constants are those of objects that are there
abbrev pub ConstantsAreThere : Heap → Type 0
ConstantsAreThere heap =
    AllByRecursion (λ kept. kept.reference < length heap.objects) heap.constants
