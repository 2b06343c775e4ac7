-- The heap: objects by their references, which are numbers, and the references of constants (JVM Specification SE 8, 2.4, 2.5.3
-- and 5.1).
use Rattle.std.specs.Prelude.{◌==◌, ◌&&◌, ◌+◌, ◌-◌, ℕ, Bool, false, List, [], ◌∷◌, ◌++◌, length, slice_get, slice_set, bytes_eq, codes, Option, Some, None, if◌then◌else◌}
use Rattle.machine_values.specs.declared.object.Constant.{Constant}
use Rattle.machine_values.specs.declared.object.Constant.TheVariants.{Str, Class, MethodType, Handle}
use Rattle.machine_values.specs.declared.object.Object.{Object}
use Rattle.machine_values.specs.declared.object.Shape.{Shape}
use Rattle.machine_values.specs.declared.object.Shape.TheVariants.{External}
use Rattle.machine_values.specs.declared.value.Value.{Value}

-- a constant and its reference
pub record Kept : Type 0 where
  pub constant : Constant
  pub reference : ℕ

-- a new reference is the number of objects; a constant that is kept is not made again
pub record Heap : Type 0 where
  pub objects : List Object
  pub constants : List Kept

-- a heap, and a reference in it
pub record Made : Type 0 where
  pub heap : Heap
  pub reference : ℕ

abbrev pub object_at : Heap → ℕ → Option Object
object_at heap reference = slice_get heap.objects reference

abbrev pub with_object : Heap → ℕ → Object → Heap
with_object heap reference object =
    record heap { objects = slice_set heap.objects reference object }

-- a new object, whose monitor is not entered
abbrev pub allocated : Heap → Shape → List Value → Made
allocated heap shape values = record {
  heap = record heap { objects = heap.objects ++ record { shape = shape; values = values; monitor = 0 } ∷ [] };
  reference = length heap.objects;
}

-- a value of an object is written
abbrev pub with_value : Heap → ℕ → ℕ → Value → Heap
with_value heap reference index value = of_object (object_at heap reference) where
  of_object : Option Object → Heap
  of_object None = heap
  of_object (Some object) =
      with_object heap reference (record object { values = slice_set object.values index value })

-- ---- monitors

abbrev pub monitor_count : Heap → ℕ → ℕ
monitor_count heap reference = of_object (object_at heap reference) where
  of_object : Option Object → ℕ
  of_object None = 0
  of_object (Some object) = object.monitor

abbrev pub with_monitor : Heap → ℕ → ℕ → Heap
with_monitor heap reference count = of_object (object_at heap reference) where
  of_object : Option Object → Heap
  of_object None = heap
  of_object (Some object) = with_object heap reference (record object { monitor = count })

abbrev pub entered : Heap → ℕ → Heap
entered heap reference = with_monitor heap reference (monitor_count heap reference + 1)

-- a monitor that is not entered stays so
abbrev pub left : Heap → ℕ → Heap
left heap reference = with_monitor heap reference (monitor_count heap reference - 1)

-- ---- constants

abbrev pub same_constant : Constant → Constant → Bool
same_constant (Str one) (Str other) = bytes_eq one other
same_constant (Class one) (Class other) = bytes_eq one other
same_constant (MethodType one) (MethodType other) = bytes_eq one other
same_constant (Handle kind class name desc) (Handle kind' class' name' desc') =
    kind == kind' && (bytes_eq class class' && (bytes_eq name name' && bytes_eq desc desc'))
same_constant one other = false

-- the class of the object that a constant is
abbrev pub class_of_constant : Constant → List ℕ
class_of_constant (Str text) = codes "java/lang/String"
class_of_constant (Class name) = codes "java/lang/Class"
class_of_constant (MethodType desc) = codes "java/lang/invoke/MethodType"
class_of_constant (Handle kind class name desc) = codes "java/lang/invoke/MethodHandle"

abbrev pub kept_in : List Kept → Constant → Option ℕ
kept_in [] constant = None
kept_in (first ∷ others) constant =
    if same_constant first.constant constant then Some first.reference else kept_in others constant

-- the constant that a reference is, if it is one
abbrev pub constant_in : List Kept → ℕ → Option Constant
constant_in [] reference = None
constant_in (first ∷ others) reference =
    if first.reference == reference then Some first.constant else constant_in others reference

-- an object of the library
abbrev pub external : Heap → List ℕ → Made
external heap class = allocated heap (External class []) []

-- the reference of a constant: the one that is kept, else that of a new object
abbrev pub constant_made : Heap → Constant → Made
constant_made heap constant = of_kept (kept_in heap.constants constant) where
  keeping : Made → Made
  keeping made =
      record made {
        heap = record made.heap {
          constants = heap.constants ++ record { constant = constant; reference = made.reference }
              ∷ [];
        };
      }

  of_kept : Option ℕ → Made
  of_kept (Some reference) = record { heap = heap; reference = reference }
  of_kept None = keeping (external heap (class_of_constant constant))
