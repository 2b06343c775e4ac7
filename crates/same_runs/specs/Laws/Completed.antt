-- What an operation comes to: a method that it calls is one of the program, and where it ends a run, that does not go on.
use Rattle.std.proofs.Common.{◌≡◌, ◌≢◌, ◌-◌, nat_lt, ℕ, ℤ, pos, negsuc, Bool, true, false, List, [], ◌∷◌, slice_get, is_some, Option, Some, None, if◌then◌else◌, refl, subst}
use Rattle.class_model.specs.Descriptors.{kind_of, parameters_of, type_of}
use Rattle.class_model.specs.Members.{STATIC}
use Rattle.class_model.specs.declared.class_file.MethodAt.{MethodAt}
use Rattle.class_model.specs.declared.opcodes.TheConstants.{IALOAD, IASTORE}
use Rattle.class_tree.specs.Headers.{Name}
use Rattle.machine_values.specs.Heaps.{object_at}
use Rattle.machine_values.specs.Values.{has_kind, have_kinds, narrowed}
use Rattle.machine_values.specs.declared.object.Object.{Object}
use Rattle.machine_values.specs.declared.object.Shape.{Shape}
use Rattle.machine_values.specs.declared.object.Shape.TheVariants as shapes
use Rattle.machine_values.specs.declared.value.Value.{Value}
use Rattle.machine_values.specs.declared.value.Value.TheVariants as values
use Rattle.member_link.specs.Machine.Arithmetic.{Meaning, divide_meanings, meaning_in, pure_meanings, result_by}
use Rattle.member_link.specs.Machine.ArraySteps.{Counts, all_counts, negative_count, no_counts, array_length_work, arrays_of_counts, counts_of, element_of, fits_component, index_in, is_too_long, length_of, load_element_work, most_elements, new_array_work, put_element, store_element_work, stores_value, takes_array}
use Rattle.member_link.specs.Machine.CallSteps.{as_asked, call_found_special, call_interface_work, call_static_work, call_virtual_work, found_special, if_conforms, interface_on, is_object_init, on_receiver, run_call, run_chosen, special_choice, special_on, virtual_on, with_receiver}
use Rattle.member_link.specs.Machine.Completions.{Asked, Completion, asks, begins, calls, ends, gives, raises, throws}
use Rattle.member_link.specs.Machine.FieldSteps.{begun_first, get_field_work, get_from, get_static_work, got_field, got_static, is_barred, put_field_in, put_field_value, put_field_work, put_into, put_static_value, put_static_work, static_number}
use Rattle.member_link.specs.Machine.Layouts.{slot_number}
use Rattle.member_link.specs.Machine.ObjectSteps.{check_cast_work, enter_monitor_work, if_there, instance_of_work, leave_monitor_work, new_object_work, throw_work}
use Rattle.member_link.specs.Machine.Ops.{Op, no_operation, meaningless, push_value, push_constant, load_local, store_local, increment_local, test_local, shuffle_stack, pure_arithmetic, division, float_arithmetic, jump_by_int, jump_by_ints, jump_by_references, jump_by_null, jump_to, table_switch, lookup_switch, return_nothing, return_value, throw_reference, get_static, put_static, get_field, put_field, call_static, call_virtual, call_interface, call_special, call_dynamic, new_object, new_array, new_arrays, load_element, store_element, array_length, check_cast, instance_of, enter_monitor, leave_monitor}
use Rattle.member_link.specs.Machine.Programs.{Chosen, Program, RunMethod, abstract_method, chosen, code_at, field_of, folder_number, has_flag, method_of, name_of_class, not_public, place_of_method, run_method, several_defaults}
use Rattle.member_link.specs.Machine.Shapes.{class_of_shape, is_instance}
use Rattle.member_link.specs.Machine.Throwables.{illegal_access}
use Rattle.member_link.specs.Machine.Work.{arithmetic_work, division_work, divides_by_zero, float_work, of_result, work}
use Rattle.member_link.specs.Machine.Worlds.{Halt, Memory, array_too_long, going, is_begun, stuck}
use Rattle.member_link.specs.References.{Reference}
use Rattle.member_link.specs.Rows.ArithmeticRows.{Operation, float_operations, operation_in}
use Rattle.member_link.specs.declared.selection.CallForm.TheVariants.{Virtual, Interface}
use Rattle.same_runs.specs.Laws.Methods.{place_is}

-- what an operation may come to
pub data IsPossible (P : Program) : Completion → Type 0 where
  may_give : {memory : Memory} {given : List Value} → IsPossible P (gives memory given)
  may_raise : {class : Name} → IsPossible P (raises class)
  may_throw : {reference : ℕ} → IsPossible P (throws reference)
  may_begin : {class : ℕ} → IsPossible P (begins class)
  may_call : {at : MethodAt} {given : List Value} {method : RunMethod} → run_method P at ≡ Some method → IsPossible P (calls at given)
  may_ask : {asked : Asked} → IsPossible P (asks asked)
  may_end : {halt : Halt} → halt ≢ going → IsPossible P (ends halt)

module _ {P : Program} where
  is_stuck : IsPossible P (ends stuck)
  is_stuck = may_end (λ impossible. cc impossible)

  either : {one other : Completion} (b : Bool) → IsPossible P one → IsPossible P other → IsPossible P (if b then one else other)
  either true is is_also = is
  either false is is_also = is_also

  -- ---- objects and monitors

  there : (memory : Memory) (reference : ℕ) (f : Object → Completion) → ((object : Object) → IsPossible P (f object))
      → IsPossible P (if_there memory reference f)
  there memory reference f each = by (object_at memory.heap reference) refl where
    by : (found : Option Object) → object_at memory.heap reference ≡ found → IsPossible P (if_there memory reference f)
    by None e = rw (e) is_stuck
    by (Some object) e = rw (e) (each object)

  throws_one : (memory : Memory) (operands : List Value) → IsPossible P (throw_work P memory operands)
  throws_one memory [] = is_stuck
  throws_one memory (values.Null ∷ []) = may_raise
  throws_one memory (values.Null ∷ more ∷ rest) = is_stuck
  throws_one memory (values.Ref reference ∷ []) = there memory reference _ (λ object. either _ may_throw is_stuck)
  throws_one memory (values.Ref reference ∷ more ∷ rest) = is_stuck
  throws_one memory (values.Int integer ∷ rest) = is_stuck
  throws_one memory (values.Long long ∷ rest) = is_stuck
  throws_one memory (values.Float bits ∷ rest) = is_stuck
  throws_one memory (values.Double bits ∷ rest) = is_stuck

  casts : (memory : Memory) (name : Name) (operands : List Value) → IsPossible P (check_cast_work P memory name operands)
  casts memory name [] = is_stuck
  casts memory name (values.Null ∷ []) = may_give
  casts memory name (values.Null ∷ more ∷ rest) = is_stuck
  casts memory name (values.Ref reference ∷ []) = there memory reference _ (λ object. either _ may_give may_raise)
  casts memory name (values.Ref reference ∷ more ∷ rest) = is_stuck
  casts memory name (values.Int integer ∷ rest) = is_stuck
  casts memory name (values.Long long ∷ rest) = is_stuck
  casts memory name (values.Float bits ∷ rest) = is_stuck
  casts memory name (values.Double bits ∷ rest) = is_stuck

  tests : (memory : Memory) (name : Name) (operands : List Value) → IsPossible P (instance_of_work P memory name operands)
  tests memory name [] = is_stuck
  tests memory name (values.Null ∷ []) = may_give
  tests memory name (values.Null ∷ more ∷ rest) = is_stuck
  tests memory name (values.Ref reference ∷ []) = there memory reference _ (λ object. may_give)
  tests memory name (values.Ref reference ∷ more ∷ rest) = is_stuck
  tests memory name (values.Int integer ∷ rest) = is_stuck
  tests memory name (values.Long long ∷ rest) = is_stuck
  tests memory name (values.Float bits ∷ rest) = is_stuck
  tests memory name (values.Double bits ∷ rest) = is_stuck

  enters : (memory : Memory) (operands : List Value) → IsPossible P (enter_monitor_work memory operands)
  enters memory [] = is_stuck
  enters memory (values.Null ∷ []) = may_raise
  enters memory (values.Null ∷ more ∷ rest) = is_stuck
  enters memory (values.Ref reference ∷ []) = there memory reference _ (λ object. may_give)
  enters memory (values.Ref reference ∷ more ∷ rest) = is_stuck
  enters memory (values.Int integer ∷ rest) = is_stuck
  enters memory (values.Long long ∷ rest) = is_stuck
  enters memory (values.Float bits ∷ rest) = is_stuck
  enters memory (values.Double bits ∷ rest) = is_stuck

  leaves : (memory : Memory) (operands : List Value) → IsPossible P (leave_monitor_work memory operands)
  leaves memory [] = is_stuck
  leaves memory (values.Null ∷ []) = may_raise
  leaves memory (values.Null ∷ more ∷ rest) = is_stuck
  leaves memory (values.Ref reference ∷ []) = there memory reference _ (λ object. either _ may_raise may_give)
  leaves memory (values.Ref reference ∷ more ∷ rest) = is_stuck
  leaves memory (values.Int integer ∷ rest) = is_stuck
  leaves memory (values.Long long ∷ rest) = is_stuck
  leaves memory (values.Float bits ∷ rest) = is_stuck
  leaves memory (values.Double bits ∷ rest) = is_stuck

  begun_before : (memory : Memory) (class : Name) (otherwise : Completion) → IsPossible P otherwise
      → IsPossible P (begun_first P memory class otherwise)
  begun_before memory class otherwise is = by (folder_number P class) refl where
    by : (found : Option ℕ) → folder_number P class ≡ found → IsPossible P (begun_first P memory class otherwise)
    by None e = rw (e) is
    by (Some number) e = rw (e) (either (is_begun memory number) is may_begin)

  makes : (memory : Memory) (class : Name) → IsPossible P (new_object_work P memory class)
  makes memory class = begun_before memory class _ may_give

  -- ---- fields

  got : (memory : Memory) (field : Reference) (class : Option ℕ) → IsPossible P (got_static P memory field class)
  got memory field None = may_ask
  got memory field (Some class) = by (static_number P class field) refl where
    by : (found : Option ℕ) → static_number P class field ≡ found → IsPossible P (got_static P memory field (Some class))
    by None e = rw (e) is_stuck
    by (Some number) e = rw (e) may_give

  gets_static : (memory : Memory) (found : Option Reference) → IsPossible P (get_static_work P memory found)
  gets_static memory None = is_stuck
  gets_static memory (Some field) = either _ (begun_before memory field.class _ (got memory field (folder_number P field.class))) is_stuck

  put : (memory : Memory) (field : Reference) (value : Value) (class : Option ℕ)
      → IsPossible P (put_static_value P memory field value class)
  put memory field value None = may_ask
  put memory field value (Some class) = by (static_number P class field) refl where
    by : (found : Option ℕ) → static_number P class field ≡ found → IsPossible P (put_static_value P memory field value (Some class))
    by None e = rw (e) is_stuck
    by (Some number) e = rw (e) may_give

  puts_static : (memory : Memory) (found : Option Reference) (initialises : Option Name) (operands : List Value)
      → IsPossible P (put_static_work P memory found initialises operands)
  puts_static memory None initialises operands = is_stuck
  puts_static memory (Some field) initialises [] = is_stuck
  puts_static memory (Some field) initialises (value ∷ more ∷ rest) = is_stuck
  puts_static memory (Some field) initialises (value ∷ []) =
      either _
      (either _ (begun_before memory field.class _ (either _ may_raise
      (put memory field (narrowed (type_of field.desc) value) (folder_number P field.class)))) is_stuck) is_stuck

  got_of : (memory : Memory) (field : Reference) (object : Option Object) → IsPossible P (got_field P memory field object)
  got_of memory field None = is_stuck
  got_of memory field (Some object) = of_shape object.shape refl where
    of_number : (class : ℕ) → object.shape ≡ shapes.Folder class → (number : Option ℕ)
        → slot_number P (name_of_class P class) field ≡ number → IsPossible P (got_field P memory field (Some object))
    of_number class is None e = rw (is, e) is_stuck
    of_number class is (Some number) e = by (slice_get object.values number) refl where
      by : (found : Option Value) → slice_get object.values number ≡ found → IsPossible P (got_field P memory field (Some object))
      by None there_is = rw (is, e, there_is) is_stuck
      by (Some value) there_is = rw (is, e, there_is) may_give

    of_shape : (shape : Shape) → object.shape ≡ shape → IsPossible P (got_field P memory field (Some object))
    of_shape (shapes.Folder class) is = of_number class is (slot_number P (name_of_class P class) field) refl
    of_shape (shapes.External class also) is = rw (is) is_stuck
    of_shape (shapes.Array desc len) is = rw (is) is_stuck

  got_from : (memory : Memory) (field : Reference) (reference : ℕ) (class : Option ℕ)
      → IsPossible P (get_from P memory field reference class)
  got_from memory field reference None = may_ask
  got_from memory field reference (Some class) = got_of memory field (object_at memory.heap reference)

  gets_field : (memory : Memory) (named : Name) (found : Option Reference) (operands : List Value)
      → IsPossible P (get_field_work P memory named found operands)
  gets_field memory named None operands = is_stuck
  gets_field memory named (Some field) [] = is_stuck
  gets_field memory named (Some field) (values.Null ∷ []) = either _ is_stuck may_raise
  gets_field memory named (Some field) (values.Null ∷ more ∷ rest) = is_stuck
  gets_field memory named (Some field) (values.Ref reference ∷ []) =
      either _ (got_from memory field reference (folder_number P field.class)) is_stuck
  gets_field memory named (Some field) (values.Ref reference ∷ more ∷ rest) = is_stuck
  gets_field memory named (Some field) (values.Int integer ∷ rest) = is_stuck
  gets_field memory named (Some field) (values.Long long ∷ rest) = is_stuck
  gets_field memory named (Some field) (values.Float bits ∷ rest) = is_stuck
  gets_field memory named (Some field) (values.Double bits ∷ rest) = is_stuck

  put_of : (memory : Memory) (field : Reference) (reference : ℕ) (value : Value) (object : Option Object)
      → IsPossible P (put_field_value P memory field reference value object)
  put_of memory field reference value None = is_stuck
  put_of memory field reference value (Some object) = of_shape object.shape refl where
    of_number : (class : ℕ) → object.shape ≡ shapes.Folder class → (number : Option ℕ)
        → slot_number P (name_of_class P class) field ≡ number
        → IsPossible P (put_field_value P memory field reference value (Some object))
    of_number class is None e = rw (is, e) is_stuck
    of_number class is (Some number) e = rw (is, e) may_give

    of_shape : (shape : Shape) → object.shape ≡ shape → IsPossible P (put_field_value P memory field reference value (Some object))
    of_shape (shapes.Folder class) is = of_number class is (slot_number P (name_of_class P class) field) refl
    of_shape (shapes.External class also) is = rw (is) is_stuck
    of_shape (shapes.Array desc len) is = rw (is) is_stuck

  puts_into : (memory : Memory) (field : Reference) (reference : ℕ) (value : Value) (class : Option ℕ)
      → IsPossible P (put_into P memory field reference value class)
  puts_into memory field reference value None = may_ask
  puts_into memory field reference value (Some class) = put_of memory field reference value (object_at memory.heap reference)

  puts_in : (memory : Memory) (named : Name) (field : Reference) (receiver value : Value)
      → IsPossible P (put_field_in P memory named field receiver value)
  puts_in memory named field values.Null value = may_raise
  puts_in memory named field (values.Ref reference) value =
      either _ (puts_into memory field reference (narrowed (type_of field.desc) value) (folder_number P field.class)) is_stuck
  puts_in memory named field (values.Int number) value = is_stuck
  puts_in memory named field (values.Long number) value = is_stuck
  puts_in memory named field (values.Float bits) value = is_stuck
  puts_in memory named field (values.Double bits) value = is_stuck

  puts_field : (memory : Memory) (named : Name) (found : Option Reference) (initialises : Option Name) (operands : List Value)
      → IsPossible P (put_field_work P memory named found initialises operands)
  puts_field memory named None initialises operands = is_stuck
  puts_field memory named (Some field) initialises [] = is_stuck
  puts_field memory named (Some field) initialises (receiver ∷ []) = is_stuck
  puts_field memory named (Some field) initialises (receiver ∷ value ∷ more ∷ rest) = is_stuck
  puts_field memory named (Some field) initialises (receiver ∷ value ∷ []) =
      either (has_flag (field_of P field) STATIC) is_stuck
      (either (has_kind (kind_of (type_of field.desc)) value)
      (either {one = raises illegal_access} (is_barred P field initialises) may_raise (puts_in memory named field receiver value)) is_stuck)

  -- ---- calls

  runs : (method : Reference) (given : List Value) → IsPossible P (run_call P method given)
  runs method given = by (place_of_method P method) refl where
    by : (found : Option MethodAt) → place_of_method P method ≡ found → IsPossible P (run_call P method given)
    by None e = rw (e) may_ask
    by (Some at) e = let found = place_is P method at e in rw (e) (either (is_some (code_at P at)) (may_call found.1) may_ask)

  runs_chosen : (choice : Chosen) (given : List Value) → IsPossible P (run_chosen P choice given)
  runs_chosen (chosen method) given = runs method given
  runs_chosen abstract_method given = may_raise
  runs_chosen several_defaults given = may_raise
  runs_chosen not_public given = may_raise

  calls_static : (memory : Memory) (named : Reference) (found : Option Reference) (given : List Value)
      → IsPossible P (call_static_work P memory named found given)
  calls_static memory named None given = is_stuck
  calls_static memory named (Some found) given = either _ (begun_before memory found.class _ (runs (as_asked P named found) given)) is_stuck

  received : (shape : Shape) (named found : Reference) (choice : Chosen) (given : List Value)
      → IsPossible P (on_receiver P shape named found choice given)
  received shape named found choice given = either _ may_ask (runs_chosen choice given)

  receives : (memory : Memory) (desc : List ℕ) (f : Shape → Completion) → ((shape : Shape) → IsPossible P (f shape)) → (given : List Value)
      → IsPossible P (with_receiver P memory desc f given)
  receives memory desc f each [] = is_stuck
  receives memory desc f each (values.Null ∷ given) = either _ may_raise is_stuck
  receives memory desc f each (values.Int number ∷ given) = either _ is_stuck is_stuck
  receives memory desc f each (values.Long number ∷ given) = either _ is_stuck is_stuck
  receives memory desc f each (values.Float bits ∷ given) = either _ is_stuck is_stuck
  receives memory desc f each (values.Double bits ∷ given) = either _ is_stuck is_stuck
  receives memory desc f each (values.Ref reference ∷ given) = by (object_at memory.heap reference) refl where
    by : (found : Option Object) → object_at memory.heap reference ≡ found
        → IsPossible P (with_receiver P memory desc f (values.Ref reference ∷ given))
    by None e = rw (e) (either (have_kinds (parameters_of desc) given) is_stuck is_stuck)
    by (Some object) e = rw (e) (either (have_kinds (parameters_of desc) given) (each object.shape) is_stuck)

  conforming : (named : Reference) (f : Shape → Completion) → ((shape : Shape) → IsPossible P (f shape)) → (shape : Shape)
      → IsPossible P (if_conforms P named f shape)
  conforming named f each shape = either _ (each shape) is_stuck

  calls_virtual : (memory : Memory) (named : Reference) (found : Option Reference) (given : List Value)
      → IsPossible P (call_virtual_work P memory named found given)
  calls_virtual memory named None given = is_stuck
  calls_virtual memory named (Some found) given =
      either (has_flag (method_of P found) STATIC) is_stuck
      (receives memory named.desc _
      (conforming named (virtual_on P named found given)
      (λ shape. received shape named found (P.links.select (class_of_shape P shape) found Virtual) given)) given)

  calls_interface : (memory : Memory) (named : Reference) (found : Option Reference) (given : List Value)
      → IsPossible P (call_interface_work P memory named found given)
  calls_interface memory named None given = is_stuck
  calls_interface memory named (Some found) given =
      either (has_flag (method_of P found) STATIC) is_stuck
      (receives memory named.desc (interface_on P named found given)
      (λ shape. either (is_instance P shape named.class)
      (received shape named found (P.links.select (class_of_shape P shape) found Interface) given) may_raise) given)

  specially : (memory : Memory) (named : Reference) (from : Name) (found : Reference) (given : List Value) (shape : Shape)
      → IsPossible P (special_on P memory named from found given shape)
  specially memory named from found given shape =
      either (is_object_init found) may_give (received shape named found (special_choice P from found) given)

  calls_special : (memory : Memory) (named : Reference) (from : Name) (found : Option Reference) (given : List Value)
      → IsPossible P (call_found_special P memory named from found given)
  calls_special memory named from None given = is_stuck
  calls_special memory named from (Some found) given =
      either (has_flag (method_of P found) STATIC) is_stuck
      (receives memory named.desc _
      (conforming named (special_on P memory named from found given) (specially memory named from found given)) given)

  -- ---- arrays

  array_ends : IsPossible P (ends array_too_long)
  array_ends = may_end (λ impossible. cc impossible)

  makes_array : (memory : Memory) (desc : Name) (operands : List Value) → IsPossible P (new_array_work memory desc operands)
  makes_array memory desc [] = is_stuck
  makes_array memory desc (values.Int (negsuc n) ∷ []) = may_raise
  makes_array memory desc (values.Int (pos count) ∷ []) = either (nat_lt most_elements count) array_ends may_give
  makes_array memory desc (values.Int (negsuc n) ∷ more ∷ rest) = is_stuck
  makes_array memory desc (values.Int (pos count) ∷ more ∷ rest) = is_stuck
  makes_array memory desc (values.Long number ∷ rest) = is_stuck
  makes_array memory desc (values.Float bits ∷ rest) = is_stuck
  makes_array memory desc (values.Double bits ∷ rest) = is_stuck
  makes_array memory desc (values.Null ∷ rest) = is_stuck
  makes_array memory desc (values.Ref reference ∷ rest) = is_stuck

  makes_counted : (memory : Memory) (desc : Name) (counts : Counts) → IsPossible P (arrays_of_counts memory desc counts)
  makes_counted memory desc no_counts = is_stuck
  makes_counted memory desc negative_count = may_raise
  makes_counted memory desc (all_counts []) = is_stuck
  makes_counted memory desc (all_counts (count ∷ counts)) = either (is_too_long 1 (count ∷ counts)) array_ends may_give

  has_length : (memory : Memory) (object : Option Object) → IsPossible P (length_of memory object)
  has_length memory None = is_stuck
  has_length memory (Some object) = by object.shape refl where
    by : (shape : Shape) → object.shape ≡ shape → IsPossible P (length_of memory (Some object))
    by (shapes.Folder class) e = rw (e) is_stuck
    by (shapes.External class also) e = rw (e) is_stuck
    by (shapes.Array desc len) e = rw (e) may_give

  lengths : (memory : Memory) (operands : List Value) → IsPossible P (array_length_work memory operands)
  lengths memory [] = is_stuck
  lengths memory (values.Null ∷ []) = may_raise
  lengths memory (values.Null ∷ more ∷ rest) = is_stuck
  lengths memory (values.Ref reference ∷ []) = has_length memory (object_at memory.heap reference)
  lengths memory (values.Ref reference ∷ more ∷ rest) = is_stuck
  lengths memory (values.Int integer ∷ rest) = is_stuck
  lengths memory (values.Long long ∷ rest) = is_stuck
  lengths memory (values.Float bits ∷ rest) = is_stuck
  lengths memory (values.Double bits ∷ rest) = is_stuck

  element : (memory : Memory) (number : ℕ) (index : ℤ) (object : Option Object) → IsPossible P (element_of memory number index object)
  element memory number index None = is_stuck
  element memory number index (Some object) = of_shape object.shape refl where
    of_index : (desc : Name) (len : ℕ) → object.shape ≡ shapes.Array desc len → takes_array number desc ≡ true → (found : Option ℕ)
        → index_in index len ≡ found
        → IsPossible P (element_of memory number index (Some object))
    of_index desc len e takes None is = rw (e, takes, is) may_raise
    of_index desc len e takes (Some at) is = by (slice_get object.values at) refl where
      by : (found : Option Value) → slice_get object.values at ≡ found → IsPossible P (element_of memory number index (Some object))
      by None there_is = rw (e, takes, is, there_is) is_stuck
      by (Some value) there_is = rw (e, takes, is, there_is) may_give

    of_array : (desc : Name) (len : ℕ) → object.shape ≡ shapes.Array desc len → (b : Bool) → takes_array number desc ≡ b
        → IsPossible P (element_of memory number index (Some object))
    of_array desc len e true takes = of_index desc len e takes (index_in index len) refl
    of_array desc len e false takes = rw (e, takes) is_stuck

    of_shape : (shape : Shape) → object.shape ≡ shape → IsPossible P (element_of memory number index (Some object))
    of_shape (shapes.Folder class) e = rw (e) is_stuck
    of_shape (shapes.External class also) e = rw (e) is_stuck
    of_shape (shapes.Array desc len) e = of_array desc len e (takes_array number desc) refl

  loads : (memory : Memory) (number : ℕ) (operands : List Value) → IsPossible P (load_element_work memory number operands)
  loads memory number [] = is_stuck
  loads memory number (values.Int integer ∷ rest) = is_stuck
  loads memory number (values.Long long ∷ rest) = is_stuck
  loads memory number (values.Float bits ∷ rest) = is_stuck
  loads memory number (values.Double bits ∷ rest) = is_stuck
  loads memory number (values.Null ∷ []) = is_stuck
  loads memory number (values.Null ∷ values.Int index ∷ []) = may_raise
  loads memory number (values.Null ∷ values.Int index ∷ more ∷ rest) = is_stuck
  loads memory number (values.Null ∷ values.Long long ∷ rest) = is_stuck
  loads memory number (values.Null ∷ values.Float bits ∷ rest) = is_stuck
  loads memory number (values.Null ∷ values.Double bits ∷ rest) = is_stuck
  loads memory number (values.Null ∷ values.Null ∷ rest) = is_stuck
  loads memory number (values.Null ∷ values.Ref reference ∷ rest) = is_stuck
  loads memory number (values.Ref at ∷ []) = is_stuck
  loads memory number (values.Ref at ∷ values.Int index ∷ []) = element memory number index (object_at memory.heap at)
  loads memory number (values.Ref at ∷ values.Int index ∷ more ∷ rest) = is_stuck
  loads memory number (values.Ref at ∷ values.Long long ∷ rest) = is_stuck
  loads memory number (values.Ref at ∷ values.Float bits ∷ rest) = is_stuck
  loads memory number (values.Ref at ∷ values.Double bits ∷ rest) = is_stuck
  loads memory number (values.Ref at ∷ values.Null ∷ rest) = is_stuck
  loads memory number (values.Ref at ∷ values.Ref reference ∷ rest) = is_stuck

  puts_element : (memory : Memory) (number reference : ℕ) (index : ℤ) (value : Value) (object : Option Object)
      → IsPossible P (put_element P memory number reference index value object)
  puts_element memory number reference index value None = is_stuck
  puts_element memory number reference index value (Some object) = of_shape object.shape refl where
    of_index : (desc : Name) (len : ℕ) → object.shape ≡ shapes.Array desc len → takes_array number desc ≡ true → (found : Option ℕ)
        → index_in index len ≡ found
        → IsPossible P (put_element P memory number reference index value (Some object))
    of_index desc len e takes None is = rw (e, takes, is) may_raise
    of_index desc len e takes (Some at) is = rw (e, takes, is) (either (fits_component P memory desc value) may_give may_raise)

    of_array : (desc : Name) (len : ℕ) → object.shape ≡ shapes.Array desc len → (b : Bool) → takes_array number desc ≡ b
        → IsPossible P (put_element P memory number reference index value (Some object))
    of_array desc len e true takes = of_index desc len e takes (index_in index len) refl
    of_array desc len e false takes = rw (e, takes) is_stuck

    of_shape : (shape : Shape) → object.shape ≡ shape → IsPossible P (put_element P memory number reference index value (Some object))
    of_shape (shapes.Folder class) e = rw (e) is_stuck
    of_shape (shapes.External class also) e = rw (e) is_stuck
    of_shape (shapes.Array desc len) e = of_array desc len e (takes_array number desc) refl

  stores_into : (memory : Memory) (number : ℕ) (index : ℤ) (array value : Value)
      → IsPossible P (store_element_work P memory number (array ∷ values.Int index ∷ value ∷ []))
  stores_into memory number index values.Null value = either (stores_value number value) may_raise is_stuck
  stores_into memory number index (values.Ref reference) value =
      either (stores_value number value) (puts_element memory number reference index value (object_at memory.heap reference)) is_stuck
  stores_into memory number index (values.Int at) value = either (stores_value number value) is_stuck is_stuck
  stores_into memory number index (values.Long at) value = either (stores_value number value) is_stuck is_stuck
  stores_into memory number index (values.Float at) value = either (stores_value number value) is_stuck is_stuck
  stores_into memory number index (values.Double at) value = either (stores_value number value) is_stuck is_stuck

  stores : (memory : Memory) (number : ℕ) (operands : List Value) → IsPossible P (store_element_work P memory number operands)
  stores memory number [] = is_stuck
  stores memory number (array ∷ []) = is_stuck
  stores memory number (array ∷ values.Int index ∷ []) = is_stuck
  stores memory number (array ∷ values.Int index ∷ value ∷ []) = stores_into memory number index array value
  stores memory number (array ∷ values.Int index ∷ value ∷ more ∷ rest) = is_stuck
  stores memory number (array ∷ values.Long long ∷ rest) = is_stuck
  stores memory number (array ∷ values.Float bits ∷ rest) = is_stuck
  stores memory number (array ∷ values.Double bits ∷ rest) = is_stuck
  stores memory number (array ∷ values.Null ∷ rest) = is_stuck
  stores memory number (array ∷ values.Ref reference ∷ rest) = is_stuck

  -- ---- arithmetic

  result : (memory : Memory) (found : Option Value) → IsPossible P (of_result memory found)
  result memory None = is_stuck
  result memory (Some value) = may_give

  computes : (memory : Memory) (meaning : Option Meaning) (operands : List Value) → IsPossible P (arithmetic_work memory meaning operands)
  computes memory None operands = is_stuck
  computes memory (Some meaning) operands = result memory (result_by meaning operands)

  divides : (memory : Memory) (meaning : Option Meaning) (operands : List Value) → IsPossible P (division_work memory meaning operands)
  divides memory None operands = is_stuck
  divides memory (Some meaning) operands = by (result_by meaning operands) refl where
    by : (found : Option Value) → result_by meaning operands ≡ found → IsPossible P (division_work memory (Some meaning) operands)
    by None e = rw (e) is_stuck
    by (Some value) e = rw (e) (either (divides_by_zero operands) may_raise may_give)

  asks_float_of : (opcode : ℕ) (operation : Option Operation) (operands : List Value) → IsPossible P (float_work opcode operation operands)
  asks_float_of opcode None operands = is_stuck
  asks_float_of opcode (Some operation) operands = either _ may_ask is_stuck

  works : (memory : Memory) (op : Op) (operands : List Value) → IsPossible P (work P memory op operands)
  works memory (push_value value) operands = may_give
  works memory (push_constant constant) operands = may_give
  works memory (pure_arithmetic opcode) operands = computes memory (meaning_in pure_meanings opcode) operands
  works memory (division opcode) operands = divides memory (meaning_in divide_meanings opcode) operands
  works memory (float_arithmetic opcode) operands = asks_float_of opcode (operation_in float_operations opcode) operands
  works memory throw_reference operands = throws_one memory operands
  works memory (get_static r) operands = gets_static memory (P.links.field r)
  works memory (put_static r initialises) operands = puts_static memory (P.links.field r) initialises operands
  works memory (get_field r) operands = gets_field memory r.class (P.links.field r) operands
  works memory (put_field r initialises) operands = puts_field memory r.class (P.links.field r) initialises operands
  works memory (call_static r) operands = calls_static memory r (P.links.method r) operands
  works memory (call_virtual r) operands = calls_virtual memory r (P.links.method r) operands
  works memory (call_interface r) operands = calls_interface memory r (P.links.method r) operands
  works memory (call_special r from) operands = calls_special memory r from (found_special P r) operands
  works memory (call_dynamic class bootstrap name desc) operands = either (have_kinds (parameters_of desc) operands) may_ask is_stuck
  works memory (new_object class) operands = makes memory class
  works memory (new_array desc) operands = makes_array memory desc operands
  works memory (new_arrays desc dimensions) operands = makes_counted memory desc (counts_of operands)
  works memory (load_element opcode) operands = loads memory (opcode - IALOAD) operands
  works memory (store_element opcode) operands = stores memory (opcode - IASTORE) operands
  works memory array_length operands = lengths memory operands
  works memory (check_cast name) operands = casts memory name operands
  works memory (instance_of name) operands = tests memory name operands
  works memory enter_monitor operands = enters memory operands
  works memory leave_monitor operands = leaves memory operands
  works memory no_operation operands = is_stuck
  works memory meaningless operands = is_stuck
  works memory (load_local kind at) operands = is_stuck
  works memory (store_local kind at) operands = is_stuck
  works memory (increment_local at by) operands = is_stuck
  works memory (test_local at) operands = is_stuck
  works memory (shuffle_stack opcode) operands = is_stuck
  works memory (jump_by_int opcode to) operands = is_stuck
  works memory (jump_by_ints opcode to) operands = is_stuck
  works memory (jump_by_references opcode to) operands = is_stuck
  works memory (jump_by_null opcode to) operands = is_stuck
  works memory (jump_to to) operands = is_stuck
  works memory (table_switch low default targets) operands = is_stuck
  works memory (lookup_switch default pairs) operands = is_stuck
  works memory return_nothing operands = is_stuck
  works memory (return_value type) operands = is_stuck

-- each operation comes to something that may be
pub work_is_possible : (P : Program) (memory : Memory) (op : Op) (operands : List Value) → IsPossible P (work P memory op operands)
work_is_possible P memory op operands = works {P = P} memory op operands

-- a method that is called is one of the program
pub called_there : {P : Program} {completion : Completion} → IsPossible P completion → (at : MethodAt) (given : List Value)
    → completion ≡ calls at given
    → (method : RunMethod) × (run_method P at ≡ Some method)
called_there {P = P} (may_call {at = to} {given = values_given} {method = method} is) at given same =
    let here : to ≡ at = cc same in
    (method, subst (λ (place : MethodAt). run_method P place ≡ Some method) here is)
called_there may_give at given same = absurd (cc same)
called_there may_raise at given same = absurd (cc same)
called_there may_throw at given same = absurd (cc same)
called_there may_begin at given same = absurd (cc same)
called_there may_ask at given same = absurd (cc same)
called_there (may_end differs) at given same = absurd (cc same)

-- where an operation ends a run, that does not go on
pub ends_over : {P : Program} {completion : Completion} → IsPossible P completion → completion ≢ ends going
ends_over (may_end differs) same = differs (cc same)
ends_over may_give same = cc same
ends_over may_raise same = cc same
ends_over may_throw same = cc same
ends_over may_begin same = cc same
ends_over may_ask same = cc same
ends_over (may_call is) same = cc same
