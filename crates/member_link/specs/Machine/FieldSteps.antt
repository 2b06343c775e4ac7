-- Fields (JVM Specification SE 8, 5.5 and 6.5: getstatic, putstatic, getfield, putfield). A field is external where a class of the library
-- declares it. The test of a final field comes before that of null; a static field's class is begun before the test of a final
-- one.
use Rattle.std.specs.Prelude.{◌&&◌, not, ℕ, Bool, false, List, [], ◌∷◌, slice_get, bytes_eq, Option, Some, None, if◌then◌else◌}
use Rattle.class_model.specs.Descriptors.{kind_of, type_of}
use Rattle.class_model.specs.Members.{FINAL, STATIC}
use Rattle.class_tree.specs.Headers.{Name}
use Rattle.machine_values.specs.declared.object.Object.{Object}
use Rattle.machine_values.specs.declared.object.Shape.{Shape}
use Rattle.machine_values.specs.declared.object.Shape.TheVariants as shapes
use Rattle.machine_values.specs.declared.value.Value.{Value}
use Rattle.machine_values.specs.declared.value.Value.TheVariants.{Null, Ref}
use Rattle.member_link.specs.Machine.Completions.{Completion, gives, raises, begins, asks, ends, asks_get, asks_put}
use Rattle.machine_values.specs.Heaps.{object_at, with_value}
use Rattle.member_link.specs.Machine.Layouts.{slot_number}
use Rattle.member_link.specs.Machine.Programs.{Program, folder_number, number_of_first, field_of, has_flag, member_of, name_of_class, RunClass}
use Rattle.member_link.specs.Machine.Shapes.{reference_conforms}
use Rattle.member_link.specs.Machine.Throwables.{null_pointer, illegal_access}
use Rattle.machine_values.specs.Values.{has_kind, narrowed}
use Rattle.member_link.specs.Machine.Worlds.{Memory, with_heap, is_begun, static_value, with_static, stuck}
use Rattle.member_link.specs.References.{Reference}

-- the class is one of the folder that is begun first, else what follows
abbrev pub begun_first : Program → Memory → Name → Completion → Completion
begun_first P memory class otherwise = of_number (folder_number P class) where
  of_number : Option ℕ → Completion
  of_number None = otherwise
  of_number (Some number) = if is_begun memory number then otherwise else begins number

-- A store into a final instance field outside an instance initialiser of the class that declares it, and into a final static field
-- outside its class initialiser; of a class of the library always.
abbrev pub is_barred : Program → Reference → Option Name → Bool
is_barred P field initialises =
    has_flag (field_of P field) FINAL && not (is_inside initialises) where
      is_inside : Option Name → Bool
      is_inside None = false
      is_inside (Some class) = bytes_eq class field.class

-- a value of another kind than the field is no operand of a store
abbrev pub if_fits : Reference → Value → Completion → Completion
if_fits field value completion =
    if has_kind (kind_of (type_of field.desc)) value then completion else ends stuck

-- ---- static fields

-- the number of a field among those that its class declares
abbrev pub static_number : Program → ℕ → Reference → Option ℕ
static_number P class field = of_class (slice_get P.classes class) where
  of_class : Option RunClass → Option ℕ
  of_class None = None
  of_class (Some found) = number_of_first (member_of field) found.header.fields

-- by the class of the folder that declares it, if one does
abbrev pub got_static : Program → Memory → Reference → Option ℕ → Completion
got_static P memory field None = asks (asks_get field None)
got_static P memory field (Some class) = of_number (static_number P class field) where
  of_number : Option ℕ → Completion
  of_number None = ends stuck
  of_number (Some number) = gives memory (static_value P memory class number ∷ [])

abbrev pub put_static_value : Program → Memory → Reference → Value → Option ℕ → Completion
put_static_value P memory field value None = asks (asks_put field None value)
put_static_value P memory field value (Some class) = of_number (static_number P class field) where
  of_number : Option ℕ → Completion
  of_number None = ends stuck
  of_number (Some number) = gives (with_static memory class number value) []

-- the store into a static field of a class that is begun
abbrev pub put_static_begun : Program → Memory → Reference → Option Name → Value → Completion
put_static_begun P memory field initialises value =
    if is_barred P field initialises then raises illegal_access
    else put_static_value P memory field (narrowed (type_of field.desc) value)
    (folder_number P field.class)

abbrev pub get_static_work : Program → Memory → Option Reference → Completion
get_static_work P memory None = ends stuck
get_static_work P memory (Some field) =
    if has_flag (field_of P field) STATIC
    then begun_first P memory field.class (got_static P memory field (folder_number P field.class))
    else ends stuck

abbrev pub put_static_work :
    Program → Memory → Option Reference → Option Name → List Value → Completion
put_static_work P memory (Some field) initialises (value ∷ []) =
    if has_flag (field_of P field) STATIC
    then if_fits field value
    (begun_first P memory field.class (put_static_begun P memory field initialises value))
    else ends stuck
put_static_work P memory field initialises operands = ends stuck

-- ---- instance fields

-- the object's value of a field of the folder
abbrev pub got_field : Program → Memory → Reference → Option Object → Completion
got_field P memory field None = ends stuck
got_field P memory field (Some object) = of_shape object.shape where
  of_value : Option Value → Completion
  of_value None = ends stuck
  of_value (Some value) = gives memory (value ∷ [])

  of_number : Option ℕ → Completion
  of_number None = ends stuck
  of_number (Some number) = of_value (slice_get object.values number)

  of_shape : Shape → Completion
  of_shape (shapes.Folder class) = of_number (slot_number P (name_of_class P class) field)
  of_shape shape = ends stuck

abbrev pub put_field_value : Program → Memory → Reference → ℕ → Value → Option Object → Completion
put_field_value P memory field reference value None = ends stuck
put_field_value P memory field reference value (Some object) = of_shape object.shape where
  of_number : Option ℕ → Completion
  of_number None = ends stuck
  of_number (Some number) =
      gives (with_heap memory (with_value memory.heap reference number value)) []

  of_shape : Shape → Completion
  of_shape (shapes.Folder class) = of_number (slot_number P (name_of_class P class) field)
  of_shape shape = ends stuck

-- by the class of the folder that declares it, if one does
abbrev pub get_from : Program → Memory → Reference → ℕ → Option ℕ → Completion
get_from P memory field reference None = asks (asks_get field (Some (Ref reference)))
get_from P memory field reference (Some class) =
    got_field P memory field (object_at memory.heap reference)

abbrev pub put_into : Program → Memory → Reference → ℕ → Value → Option ℕ → Completion
put_into P memory field reference value None = asks (asks_put field (Some (Ref reference)) value)
put_into P memory field reference value (Some class) =
    put_field_value P memory field reference value (object_at memory.heap reference)

-- a field, found by a reference through a class to which the receiver conforms
abbrev pub get_field_work : Program → Memory → Name → Option Reference → List Value → Completion
get_field_work P memory named (Some field) (Null ∷ []) =
    if has_flag (field_of P field) STATIC then ends stuck else raises null_pointer
get_field_work P memory named (Some field) (Ref reference ∷ []) =
    if not (has_flag (field_of P field) STATIC) && reference_conforms P memory.heap reference named
    then get_from P memory field reference (folder_number P field.class)
    else ends stuck
get_field_work P memory named field operands = ends stuck

-- the store itself, behind the test of a final field
abbrev pub put_field_in : Program → Memory → Name → Reference → Value → Value → Completion
put_field_in P memory named field Null value = raises null_pointer
put_field_in P memory named field (Ref reference) value =
    if reference_conforms P memory.heap reference named
    then put_into P memory field reference (narrowed (type_of field.desc) value)
    (folder_number P field.class)
    else ends stuck
put_field_in P memory named field other value = ends stuck

abbrev pub put_field_tested :
    Program → Memory → Name → Reference → Option Name → Value → Value → Completion
put_field_tested P memory named field initialises receiver value =
    if is_barred P field initialises
    then raises illegal_access
    else put_field_in P memory named field receiver value

abbrev pub put_field_work :
    Program → Memory → Name → Option Reference → Option Name → List Value → Completion
put_field_work P memory named (Some field) initialises (receiver ∷ value ∷ []) =
    if has_flag (field_of P field) STATIC then ends stuck
    else if_fits field value (put_field_tested P memory named field initialises receiver value)
put_field_work P memory named field initialises operands = ends stuck
