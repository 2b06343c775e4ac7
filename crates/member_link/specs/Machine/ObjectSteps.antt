-- Objects (JVM Specification SE 8, 6.5: new, checkcast, instanceof, monitorenter, monitorexit, athrow). A monitor can always be entered.
use Rattle.std.specs.Prelude.{◌==◌, ◌+◌, ℕ, pos, List, [], ◌∷◌, Option, Some, None, if◌then◌else◌}
use Rattle.class_tree.specs.Headers.{Name}
use Rattle.class_tree.specs.Layouts.{instance_fields}
use Rattle.class_tree.specs.Names.{throwable}
use Rattle.machine_values.specs.declared.object.Object.{Object}
use Rattle.machine_values.specs.declared.object.Shape.TheVariants.{Folder}
use Rattle.machine_values.specs.declared.value.Value.{Value}
use Rattle.machine_values.specs.declared.value.Value.TheVariants.{Int, Null, Ref}
use Rattle.member_link.specs.Machine.Completions.{Completion, gives, raises, throws, ends}
use Rattle.machine_values.specs.Heaps.{Heap, Made, object_at, allocated, external, entered, left}
use Rattle.member_link.specs.Machine.FieldSteps.{begun_first}
use Rattle.member_link.specs.Machine.Programs.{Program, headers_in, folder_number, name_of_class}
use Rattle.member_link.specs.Machine.Shapes.{is_instance, shape_conforms}
use Rattle.member_link.specs.Machine.Throwables.{null_pointer, class_cast, illegal_monitor}
use Rattle.machine_values.specs.Values.{blank_values}
use Rattle.member_link.specs.Machine.Worlds.{Memory, with_heap, stuck}

-- an object of a class of the folder, whose fields are zero or null
abbrev pub blank_object : Program → Heap → ℕ → Made
blank_object P heap class =
    allocated heap (Folder class)
    (blank_values (instance_fields (headers_in P) (name_of_class P class)))

-- an object of a class, of the folder or of the library
abbrev pub object_of : Program → Heap → Name → Made
object_of P heap class = of_number (folder_number P class) where
  of_number : Option ℕ → Made
  of_number (Some number) = blank_object P heap number
  of_number None = external heap class

abbrev pub new_object_work : Program → Memory → Name → Completion
new_object_work P memory class =
    begun_first P memory class (counted (object_of P memory.heap class)) where
      counted : Made → Completion
      counted made =
          gives (record memory { heap = made.heap; allocations = memory.allocations + 1 })
          (Ref made.reference ∷ [])

-- ---- what a reference names

-- what a reference names, if there is such an object
abbrev pub if_there : Memory → ℕ → (Object → Completion) → Completion
if_there memory reference of_object = by (object_at memory.heap reference) where
  by : Option Object → Completion
  by None = ends stuck
  by (Some object) = of_object object

-- ---- tests of classes

abbrev pub check_cast_work : Program → Memory → Name → List Value → Completion
check_cast_work P memory name (Null ∷ []) = gives memory (Null ∷ [])
check_cast_work P memory name (Ref reference ∷ []) =
    if_there memory reference (λ object.
    if is_instance P object.shape name
    then gives memory (Ref reference ∷ [])
    else raises class_cast)
check_cast_work P memory name operands = ends stuck

abbrev pub instance_of_work : Program → Memory → Name → List Value → Completion
instance_of_work P memory name (Null ∷ []) = gives memory (Int (pos 0) ∷ [])
instance_of_work P memory name (Ref reference ∷ []) =
    if_there memory reference (λ object.
    gives memory (Int (if is_instance P object.shape name then pos 1 else pos 0) ∷ []))
instance_of_work P memory name operands = ends stuck

-- ---- monitors

abbrev pub with_entered : Memory → ℕ → Memory
with_entered memory reference =
    record memory { heap = entered memory.heap reference; entries = memory.entries + 1 }

abbrev pub enter_monitor_work : Memory → List Value → Completion
enter_monitor_work memory (Null ∷ []) = raises null_pointer
enter_monitor_work memory (Ref reference ∷ []) =
    if_there memory reference (λ object. gives (with_entered memory reference) [])
enter_monitor_work memory operands = ends stuck

abbrev pub leave_monitor_work : Memory → List Value → Completion
leave_monitor_work memory (Null ∷ []) = raises null_pointer
leave_monitor_work memory (Ref reference ∷ []) =
    if_there memory reference (λ object.
    if object.monitor == 0
    then raises illegal_monitor
    else gives (with_heap memory (left memory.heap reference)) [])
leave_monitor_work memory operands = ends stuck

-- ---- throwing

abbrev pub throw_work : Program → Memory → List Value → Completion
throw_work P memory (Null ∷ []) = raises null_pointer
throw_work P memory (Ref reference ∷ []) =
    if_there memory reference
    (λ object. if shape_conforms P object.shape throwable then throws reference else ends stuck)
throw_work P memory operands = ends stuck
