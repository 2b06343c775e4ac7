-- A class that an operation begins is not begun.
use Rattle.std.specs.Prelude.{◌≡◌, ◌-◌, refl, ℕ, ℤ, Bool, true, false, if◌then◌else◌, List, [], ◌∷◌, Option, Some, None}
use Rattle.std.proofs.Common.{arith, subst}
use Rattle.class_model.specs.Members.{STATIC}
use Rattle.class_model.specs.declared.opcodes.TheConstants.{IASTORE}
use Rattle.class_tree.specs.Headers.{Name}
use Rattle.machine_values.specs.declared.object.Object.{Object}
use Rattle.machine_values.specs.declared.object.Shape.{Shape}
use Rattle.machine_values.specs.declared.value.Value.{Value}
use Rattle.member_link.specs.Machine.ArraySteps.{Counts, all_counts, arrays_made, arrays_of_counts, counts_of, gives_arrays, is_too_long, negative_count, nested, new_array_work, no_counts, put_element, store_element_work}
use Rattle.member_link.specs.Machine.CallSteps.{call_found_special, call_interface_work, call_static_work, call_virtual_work, if_conforms, interface_on, is_object_init, on_receiver, run_call, run_chosen, special_on, virtual_on, with_receiver}
use Rattle.member_link.specs.Machine.Completions.{Completion, begins, ends, gives}
use Rattle.member_link.specs.Machine.FieldSteps.{begun_first, get_field_work, get_static_work, if_fits, put_field_in, put_field_tested, put_field_value, put_field_work, put_into, put_static_begun, put_static_value, put_static_work}
use Rattle.member_link.specs.Machine.ObjectSteps.{new_object_work}
use Rattle.member_link.specs.Machine.Ops as ops
use Rattle.member_link.specs.Machine.Ops.{Op}
use Rattle.member_link.specs.Machine.Programs.{Chosen, Program, field_of, folder_number, has_flag}
use Rattle.member_link.specs.Machine.Work.{work}
use Rattle.member_link.specs.Machine.Worlds.{Memory, array_too_long, is_begun, stuck}
use Rattle.member_link.specs.References.{Reference}

abbrev pub IsUnbegun : Memory → Completion → Type 0
IsUnbegun m (begins class) = is_begun m class ≡ false
IsUnbegun m other = Unit {0}

-- as a record, whose arguments are found where it is cited
pub record Unbegun (m : Memory) (c : Completion) : Type 0 where
  pub is : IsUnbegun m c

if_unbegun :
    (m : Memory) (test : Bool) (c d : Completion) → Unbegun m c → Unbegun m d
    → Unbegun m (if test then c else d)
if_unbegun m true c d one other = one
if_unbegun m false c d one other = other

-- ---- what begins a class

begun_first_unbegun :
    (P : Program) (m : Memory) (class : Name) (otherwise : Completion) → Unbegun m otherwise
    → Unbegun m (begun_first P m class otherwise)
begun_first_unbegun P m class otherwise other = by (folder_number P class) refl where
  of_test :
      (test : Bool) (n : ℕ) → is_begun m n ≡ test
      → Unbegun m (if test then otherwise else begins n)
  of_test true n is = other
  of_test false n is = record { is = is }

  by : (number : Option ℕ) → folder_number P class ≡ number
      → Unbegun m (begun_first P m class otherwise)
  by None is = rw is other
  by (Some n) is = rw is (of_test (is_begun m n) n refl)

if_fits_unbegun :
    (m : Memory) (field : Reference) (value : Value) (c : Completion) → Unbegun m c
    → Unbegun m (if_fits field value c)
if_fits_unbegun m field value c is = if_unbegun m _ c (ends stuck) is (record { is = tt })

get_static_unbegun :
    (P : Program) (m : Memory) (field : Option Reference) → Unbegun m (get_static_work P m field)
get_static_unbegun P m field = record { is = grind arith }

put_static_value_unbegun :
    (P : Program) (m : Memory) (field : Reference) (value : Value) (class : Option ℕ)
    → Unbegun m (put_static_value P m field value class)
put_static_value_unbegun P m field value class = record { is = grind arith }

put_static_begun_unbegun :
    (P : Program) (m : Memory) (field : Reference) (initialises : Option Name) (value : Value)
    → Unbegun m (put_static_begun P m field initialises value)
put_static_begun_unbegun P m field initialises value = grind (arith, put_static_value_unbegun)

put_static_unbegun :
    (P : Program) (m : Memory) (field : Option Reference) (initialises : Option Name)
    (values : List Value)
    → Unbegun m (put_static_work P m field initialises values)
put_static_unbegun P m None initialises values = record { is = tt }
put_static_unbegun P m (Some field) initialises [] = record { is = tt }
put_static_unbegun P m (Some field) initialises (value ∷ []) =
    if_unbegun m (has_flag (field_of P field) STATIC)
    (if_fits field value
    (begun_first P m field.class (put_static_begun P m field initialises value)))
    (ends stuck)
    (if_fits_unbegun m field value _
    (begun_first_unbegun P m field.class _
    (put_static_begun_unbegun P m field initialises value)))
    (record { is = tt })
put_static_unbegun P m (Some field) initialises (value ∷ next ∷ values) = record { is = tt }

new_object_unbegun :
    (P : Program) (m : Memory) (class : Name) → Unbegun m (new_object_work P m class)
new_object_unbegun P m class = begun_first_unbegun P m class _ (record { is = tt })

run_call_unbegun :
    (P : Program) (m : Memory) (method : Reference) (values : List Value)
    → Unbegun m (run_call P method values)
run_call_unbegun P m method values = record { is = grind arith }

call_static_unbegun :
    (P : Program) (m : Memory) (named : Reference) (found : Option Reference) (values : List Value)
    → Unbegun m (call_static_work P m named found values)
call_static_unbegun P m named None values = record { is = tt }
call_static_unbegun P m named (Some found) values =
    if_unbegun m _ _ (ends stuck)
    (begun_first_unbegun P m found.class _ (run_call_unbegun P m _ values))
    (record { is = tt })

-- ---- fields of objects

get_field_unbegun :
    (P : Program) (m : Memory) (named : Name) (field : Option Reference) (values : List Value)
    → Unbegun m (get_field_work P m named field values)
get_field_unbegun P m named field values = record { is = grind arith }

put_field_value_unbegun :
    (P : Program) (m : Memory) (field : Reference) (reference : ℕ) (value : Value)
    (object : Option Object)
    → Unbegun m (put_field_value P m field reference value object)
put_field_value_unbegun P m field reference value object = record { is = grind arith }

put_into_unbegun :
    (P : Program) (m : Memory) (field : Reference) (reference : ℕ) (value : Value)
    (class : Option ℕ)
    → Unbegun m (put_into P m field reference value class)
put_into_unbegun P m field reference value None = record { is = tt }
put_into_unbegun P m field reference value (Some class) =
    put_field_value_unbegun P m field reference value _

put_field_in_unbegun :
    (P : Program) (m : Memory) (named : Name) (field : Reference) (receiver value : Value)
    → Unbegun m (put_field_in P m named field receiver value)
put_field_in_unbegun P m named field receiver value = record { is = grind (arith, put_into_unbegun) }

put_field_tested_unbegun :
    (P : Program) (m : Memory) (named : Name) (field : Reference) (initialises : Option Name)
    (receiver value : Value)
    → Unbegun m (put_field_tested P m named field initialises receiver value)
put_field_tested_unbegun P m named field initialises receiver value =
    grind (arith, put_field_in_unbegun)

put_field_unbegun :
    (P : Program) (m : Memory) (named : Name) (field : Option Reference)
    (initialises : Option Name) (values : List Value)
    → Unbegun m (put_field_work P m named field initialises values)
put_field_unbegun P m named None initialises values = record { is = tt }
put_field_unbegun P m named (Some field) initialises [] = record { is = tt }
put_field_unbegun P m named (Some field) initialises (receiver ∷ []) = record { is = tt }
put_field_unbegun P m named (Some field) initialises (receiver ∷ value ∷ []) =
    if_unbegun m _ (ends stuck) _ (record { is = tt })
    (if_fits_unbegun m field value _
    (put_field_tested_unbegun P m named field initialises receiver value))
put_field_unbegun P m named (Some field) initialises (receiver ∷ value ∷ next ∷ values) =
    record { is = tt }

-- ---- calls on receivers

run_chosen_unbegun :
    (P : Program) (m : Memory) (choice : Chosen) (values : List Value)
    → Unbegun m (run_chosen P choice values)
run_chosen_unbegun P m choice values = record { is = grind (arith, run_call_unbegun) }

on_receiver_unbegun :
    (P : Program) (m : Memory) (shape : Shape) (named found : Reference) (choice : Chosen)
    (values : List Value)
    → Unbegun m (on_receiver P shape named found choice values)
on_receiver_unbegun P m shape named found choice values = grind (arith, run_chosen_unbegun)

with_receiver_unbegun :
    (P : Program) (m : Memory) (desc : List ℕ) (of_shape : Shape → Completion)
    (values : List Value) → ((shape : Shape) → Unbegun m (of_shape shape))
    → Unbegun m (with_receiver P m desc of_shape values)
with_receiver_unbegun P m desc of_shape values each = record { is = grind (arith, each) }

if_conforms_unbegun :
    (P : Program) (m : Memory) (named : Reference) (of_shape : Shape → Completion)
    → ((shape : Shape) → Unbegun m (of_shape shape)) → (shape : Shape)
    → Unbegun m (if_conforms P named of_shape shape)
if_conforms_unbegun P m named of_shape each shape = grind (arith, each)

virtual_on_unbegun :
    (P : Program) (m : Memory) (named found : Reference) (values : List Value) (shape : Shape)
    → Unbegun m (virtual_on P named found values shape)
virtual_on_unbegun P m named found values shape = on_receiver_unbegun P m shape named found _ values

call_virtual_unbegun :
    (P : Program) (m : Memory) (named : Reference) (found : Option Reference) (values : List Value)
    → Unbegun m (call_virtual_work P m named found values)
call_virtual_unbegun P m named None values = record { is = tt }
call_virtual_unbegun P m named (Some found) values =
    if_unbegun m _ (ends stuck) _ (record { is = tt })
    (with_receiver_unbegun P m named.desc (if_conforms P named (virtual_on P named found values))
    values
    (if_conforms_unbegun P m named (virtual_on P named found values)
    (virtual_on_unbegun P m named found values)))

interface_on_unbegun :
    (P : Program) (m : Memory) (named found : Reference) (values : List Value) (shape : Shape)
    → Unbegun m (interface_on P named found values shape)
interface_on_unbegun P m named found values shape = grind (arith, on_receiver_unbegun)

call_interface_unbegun :
    (P : Program) (m : Memory) (named : Reference) (found : Option Reference) (values : List Value)
    → Unbegun m (call_interface_work P m named found values)
call_interface_unbegun P m named None values = record { is = tt }
call_interface_unbegun P m named (Some found) values =
    if_unbegun m _ (ends stuck) _ (record { is = tt })
    (with_receiver_unbegun P m named.desc (interface_on P named found values) values
    (interface_on_unbegun P m named found values))

special_on_unbegun :
    (P : Program) (m : Memory) (named : Reference) (from : Name) (found : Reference)
    (values : List Value) (shape : Shape)
    → Unbegun m (special_on P m named from found values shape)
special_on_unbegun P m named from found values shape =
    if_unbegun m (is_object_init found) (gives m []) _ (record { is = tt })
    (on_receiver_unbegun P m shape named found _ values)

call_found_special_unbegun :
    (P : Program) (m : Memory) (named : Reference) (from : Name) (found : Option Reference)
    (values : List Value)
    → Unbegun m (call_found_special P m named from found values)
call_found_special_unbegun P m named from None values = record { is = tt }
call_found_special_unbegun P m named from (Some found) values =
    if_unbegun m _ (ends stuck) _ (record { is = tt })
    (with_receiver_unbegun P m named.desc
    (if_conforms P named (special_on P m named from found values)) values
    (if_conforms_unbegun P m named (special_on P m named from found values)
    (special_on_unbegun P m named from found values)))

-- ---- arrays

new_array_unbegun :
    (m : Memory) (desc : Name) (values : List Value) → Unbegun m (new_array_work m desc values)
new_array_unbegun m desc values = record { is = grind arith }

arrays_of_counts_unbegun :
    (m : Memory) (desc : Name) (counts : Counts) → Unbegun m (arrays_of_counts m desc counts)
arrays_of_counts_unbegun m desc (all_counts []) = record { is = tt }
arrays_of_counts_unbegun m desc (all_counts (count ∷ counts)) =
    if_unbegun m (is_too_long 1 (count ∷ counts)) (ends array_too_long)
    (gives_arrays m (arrays_made (count ∷ counts)) (nested desc count counts m.heap))
    (record { is = tt }) (record { is = tt })
arrays_of_counts_unbegun m desc negative_count = record { is = tt }
arrays_of_counts_unbegun m desc no_counts = record { is = tt }

put_element_unbegun :
    (P : Program) (m : Memory) (number reference : ℕ) (index : ℤ) (value : Value)
    (object : Option Object)
    → Unbegun m (put_element P m number reference index value object)
put_element_unbegun P m number reference index value object = record { is = grind arith }

store_element_unbegun :
    (P : Program) (m : Memory) (number : ℕ) (values : List Value)
    → Unbegun m (store_element_work P m number values)
store_element_unbegun P m number values = record { is = grind (arith, put_element_unbegun) }

-- ---- all operations

work_unbegun :
    (P : Program) (m : Memory) (op : Op) (values : List Value) → Unbegun m (work P m op values)
work_unbegun P m (ops.push_value value) values = record { is = tt }
work_unbegun P m (ops.push_constant constant) values = record { is = tt }
work_unbegun P m (ops.pure_arithmetic opcode) values = record { is = grind arith }
work_unbegun P m (ops.division opcode) values = record { is = grind arith }
work_unbegun P m (ops.float_arithmetic opcode) values = record { is = grind arith }
work_unbegun P m ops.throw_reference values = record { is = grind arith }
work_unbegun P m (ops.get_static field) values = get_static_unbegun P m _
work_unbegun P m (ops.put_static field initialises) values = put_static_unbegun P m _ initialises values
work_unbegun P m (ops.get_field field) values = get_field_unbegun P m field.class _ values
work_unbegun P m (ops.put_field field initialises) values = put_field_unbegun P m field.class _ initialises values
work_unbegun P m (ops.call_static method) values = call_static_unbegun P m method _ values
work_unbegun P m (ops.call_virtual method) values = call_virtual_unbegun P m method _ values
work_unbegun P m (ops.call_interface method) values = call_interface_unbegun P m method _ values
work_unbegun P m (ops.call_special method from) values = call_found_special_unbegun P m method from _ values
work_unbegun P m (ops.call_dynamic class bootstrap name desc) values = record { is = grind arith }
work_unbegun P m (ops.new_object class) values = new_object_unbegun P m class
work_unbegun P m (ops.new_array desc) values = new_array_unbegun m desc values
work_unbegun P m (ops.new_arrays desc dimensions) values = arrays_of_counts_unbegun m desc (counts_of values)
work_unbegun P m (ops.load_element opcode) values = record { is = grind arith }
work_unbegun P m (ops.store_element opcode) values = store_element_unbegun P m (opcode - IASTORE) values
work_unbegun P m ops.array_length values = record { is = grind arith }
work_unbegun P m (ops.check_cast name) values = record { is = grind arith }
work_unbegun P m (ops.instance_of name) values = record { is = grind arith }
work_unbegun P m ops.enter_monitor values = record { is = grind arith }
work_unbegun P m ops.leave_monitor values = record { is = grind arith }
work_unbegun P m op values = record { is = tt }

of_begun :
    (m : Memory) (c : Completion) (class : ℕ) → c ≡ begins class → Unbegun m c
    → is_begun m class ≡ false
of_begun m c class is unbegun =
    let moved : Unbegun m (begins class) = subst (Unbegun m) is unbegun in moved.is

pub begun_is_not_begun :
    (P : Program) (m : Memory) (op : Op) (values : List Value) (class : ℕ)
    → work P m op values ≡ begins class → is_begun m class ≡ false
begun_is_not_begun P m op values class is = of_begun m _ class is (work_unbegun P m op values)
