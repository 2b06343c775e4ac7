-- Words of reads and stores of fields.
use Rattle.std.specs.Prelude.{◌≡◌, ℕ, [], length, Option, Some, None, if◌then◌else◌}
use Rattle.class_tree.specs.Headers.{Name, Classes}
use Rattle.machine_values.specs.Heaps.{Heap, object_at, with_value}
use Rattle.machine_values.specs.declared.object.Object.{Object}
use Rattle.machine_values.specs.declared.object.Shape.{Shape}
use Rattle.machine_values.specs.declared.object.Shape.TheVariants.{Folder}
use Rattle.machine_values.specs.declared.value.Value.{Value}
use Rattle.member_link.specs.Machine.Completions.{Completion, gives, ends}
use Rattle.member_link.specs.Machine.FieldSteps.{put_into}
use Rattle.member_link.specs.Machine.Layouts.{slot_number}
use Rattle.member_link.specs.Machine.Programs.{Program, folder_number, name_of_class}
use Rattle.member_link.specs.Machine.Shapes.{reference_conforms, shape_conforms}
use Rattle.member_link.specs.Machine.Worlds.{Memory, with_heap, stuck}
use Rattle.member_link.specs.References.{Reference}
use Rattle.member_link.specs.Machine.Layouts.{capped}
use Rattle.member_link.specs.TreePrograms.{IsProgram}
use Rattle.member_link.specs.RunOps.{IsFieldTarget}
use Rattle.member_link.specs.declared.run_op.FieldOp.{FieldOp}
use Rattle.member_link.specs.declared.run_op.FieldTarget.{FieldTarget}

-- ---- what an operation knows

-- the field that an operation of a program names, through the class of this name
pub record IsTargetHere (classes : Classes) (P : Program) (op : FieldOp) (named : Name) (found : FieldTarget)
    : Type 0 where
  pub program : IsProgram classes P
  pub class : op.named.class ≡ named
  pub target : IsFieldTarget P op found

-- ---- where a field is in an object

-- the number of a field in objects of a class of the folder that conforms to the named class
abbrev pub slot_of : Program → Name → Reference → ℕ → Option ℕ
slot_of P named field class =
    if shape_conforms P (Folder class) named
    then slot_number P (name_of_class P class) field
    else None

abbrev pub slot_for : Program → Name → Reference → Shape → Option ℕ
slot_for P named field (Folder class) = slot_of P named field class
slot_for P named field shape = None

-- a number that names none of the object's values is their count
abbrev pub slot_in : Program → Name → Reference → Object → Option ℕ
slot_in P named field object =
    capped (length object.values) (slot_for P named field object.shape)

abbrev pub slot_at : Program → Heap → Name → Reference → ℕ → Option ℕ
slot_at P heap named field reference = of_object (object_at heap reference) where
  of_object : Option Object → Option ℕ
  of_object None = None
  of_object (Some object) = slot_in P named field object

-- ---- what is stored there

abbrev pub stored_at : Memory → ℕ → Value → Option ℕ → Completion
stored_at memory reference value None = ends stuck
stored_at memory reference value (Some slot) =
    gives (with_heap memory (with_value memory.heap reference slot value)) []

-- the store of a value that is narrowed
abbrev pub put_conforming : Program → Memory → Name → Reference → ℕ → Value → Completion
put_conforming P memory named field reference value =
    if reference_conforms P memory.heap reference named
    then put_into P memory field reference value (folder_number P field.class)
    else ends stuck
