-- The class that an operation begins first is one of the folder.
use Rattle.std.proofs.Common.{◌≡◌, ◌-◌, ℕ, ℤ, zero, suc, Bool, true, false, if◌then◌else◌, List, [], ◌∷◌, bytes_eq, slice_get, Option, Some, None, option_map, refl, sym, ap, subst, ◌∙◌, arith}
use Rattle.std.proofs.lemmas.Option.{none-some, same_Some}
use Rattle.class_model.specs.Members.{STATIC}
use Rattle.class_model.specs.declared.opcodes.TheConstants.{IALOAD, IASTORE}
use Rattle.class_tree.specs.Headers.{Name}
use Rattle.machine_values.specs.declared.object.Object.{Object}
use Rattle.machine_values.specs.declared.object.Shape.{Shape}
use Rattle.machine_values.specs.declared.value.Value.{Value}
use Rattle.member_link.specs.Machine.ArraySteps.{array_length_work, load_element_work, new_array_work, new_arrays_work, put_element, store_element_work}
use Rattle.member_link.specs.Machine.CallSteps.{as_asked, call_dynamic_work, call_found_special, call_interface_work, call_special_work, call_static_work, call_virtual_work, if_conforms, interface_on, is_object_init, on_receiver, run_call, run_chosen, special_choice, special_on, virtual_on, with_receiver}
use Rattle.member_link.specs.Machine.Completions.{Completion, begins, ends, gives}
use Rattle.member_link.specs.Machine.FieldSteps.{begun_first, get_field_work, get_static_work, if_fits, put_field_in, put_field_tested, put_field_value, put_field_work, put_into, put_static_begun, put_static_work}
use Rattle.member_link.specs.Machine.ObjectSteps.{check_cast_work, enter_monitor_work, instance_of_work, leave_monitor_work, new_object_work, throw_work}
use Rattle.member_link.specs.Machine.Ops.{Op}
use Rattle.member_link.specs.Machine.Ops as ops
use Rattle.member_link.specs.Machine.Programs.{Chosen, Program, RunClass, field_of, folder_number, has_flag, number_of_first}
use Rattle.member_link.specs.Machine.Work.{work}
use Rattle.member_link.specs.Machine.Worlds.{Memory, stuck}
use Rattle.member_link.specs.References.{Reference}

-- ---- a class by its number

pub number_there : {A : Type 0} (passes : A → Bool) (xs : List A) (number : ℕ) → number_of_first passes xs ≡ Some number
    → (x : A) × (slice_get xs number ≡ Some x)
number_there passes [] number is = absurd (none-some number is)
number_there {A = A} passes (x ∷ xs) number is = by (passes x) (number_of_first passes xs) refl is (number_there passes xs) where
  by : (b : Bool) (found : Option ℕ) → number_of_first passes xs ≡ found → (if b then Some zero else option_map suc found) ≡ Some number
      → ((later : ℕ) → number_of_first passes xs ≡ Some later → (y : A) × (slice_get xs later ≡ Some y))
      → (y : A) × (slice_get (x ∷ xs) number ≡ Some y)
  by true found e at rest = (x, ap (slice_get (x ∷ xs)) (sym (same_Some zero number at)))
  by false None e at rest = absurd (none-some number at)
  by false (Some later) e at rest =
      let one = rest later e in
      (one.0, ap (slice_get (x ∷ xs)) (sym (same_Some (suc later) number at)) ∙ one.1)

-- the class of a name is one of the folder
pub folder_class : (P : Program) (name : Name) (number : ℕ) → folder_number P name ≡ Some number
    → (found : RunClass) × (slice_get P.classes number ≡ Some found)
folder_class P name number is = number_there (λ (class : RunClass). bytes_eq name class.header.name) P.classes number is

-- ---- what a completion begins

abbrev pub BeginsThere : Program → Completion → Type 0
BeginsThere P (begins class) = (found : RunClass) × (slice_get P.classes class ≡ Some found)
BeginsThere P completion = Unit {0}

record IsThere (P : Program) (completion : Completion) : Type 0 where
  pub is : BeginsThere P completion

begun_first_there : (P : Program) (m : Memory) (c : Name) (otherwise : Completion) → IsThere P otherwise
    → IsThere P (begun_first P m c otherwise)
begun_first_there P m c otherwise there = record { is = grind (arith, there, folder_class) }

if_there_too : (P : Program) (b : Bool) (c d : Completion) → IsThere P c → IsThere P d → IsThere P (if b then c else d)
if_there_too P true c d g h = g
if_there_too P false c d g h = h

if_fits_there : (P : Program) (f : Reference) (v : Value) (c : Completion) → IsThere P c → IsThere P (if_fits f v c)
if_fits_there P f v c g = record { is = grind (arith, g) }

-- ---- fields and objects

get_static_there : (P : Program) (m : Memory) (f : Option Reference) → IsThere P (get_static_work P m f)
get_static_there P m None = record { is = tt }
get_static_there P m (Some f) = record { is = grind (arith, folder_class) }

put_static_begun_there : (P : Program) (m : Memory) (f : Reference) (i : Option Name) (v : Value) → IsThere P (put_static_begun P m f i v)
put_static_begun_there P m f i v = record { is = grind (arith) }

put_static_there : (P : Program) (m : Memory) (f : Option Reference) (i : Option Name) (vs : List Value)
    → IsThere P (put_static_work P m f i vs)
put_static_there P m None i vs = record { is = tt }
put_static_there P m (Some f) i [] = record { is = tt }
put_static_there P m (Some f) i (v ∷ []) =
    if_there_too P (has_flag (field_of P f) STATIC) (if_fits f v (begun_first P m f.class (put_static_begun P m f i v))) (ends stuck)
    (if_fits_there P f v (begun_first P m f.class (put_static_begun P m f i v))
    (begun_first_there P m f.class (put_static_begun P m f i v) (put_static_begun_there P m f i v)))
    (record { is = tt })
put_static_there P m (Some f) i (v ∷ w ∷ vs) = record { is = tt }

get_field_there : (P : Program) (m : Memory) (n : Name) (f : Option Reference) (vs : List Value) → IsThere P (get_field_work P m n f vs)
get_field_there P m n f vs = record { is = grind (arith) }

put_field_value_there : (P : Program) (m : Memory) (f : Reference) (r : ℕ) (v : Value) (o : Option Object)
    → IsThere P (put_field_value P m f r v o)
put_field_value_there P m f r v o = record { is = grind (arith) }

put_into_there : (P : Program) (m : Memory) (f : Reference) (r : ℕ) (v : Value) (c : Option ℕ) → IsThere P (put_into P m f r v c)
put_into_there P m f r v None = record { is = tt }
put_into_there P m f r v (Some c) = put_field_value_there P m f r v _

put_field_in_there : (P : Program) (m : Memory) (n : Name) (f : Reference) (o v : Value) → IsThere P (put_field_in P m n f o v)
put_field_in_there P m n f o v = record { is = grind (arith, put_into_there) }

put_field_tested_there : (P : Program) (m : Memory) (n : Name) (f : Reference) (i : Option Name) (o v : Value)
    → IsThere P (put_field_tested P m n f i o v)
put_field_tested_there P m n f i o v = grind (arith, put_field_in_there)

put_field_there : (P : Program) (m : Memory) (n : Name) (f : Option Reference) (i : Option Name) (vs : List Value)
    → IsThere P (put_field_work P m n f i vs)
put_field_there P m n None i vs = record { is = tt }
put_field_there P m n (Some f) i [] = record { is = tt }
put_field_there P m n (Some f) i (o ∷ []) = record { is = tt }
put_field_there P m n (Some f) i (o ∷ v ∷ []) =
    let g = if_fits_there P f v _ (put_field_tested_there P m n f i o v) in
    grind (arith, g)
put_field_there P m n (Some f) i (o ∷ v ∷ w ∷ vs) = record { is = tt }

new_object_there : (P : Program) (m : Memory) (c : Name) → IsThere P (new_object_work P m c)
new_object_there P m c = begun_first_there P m c _ (record { is = tt })

check_cast_there : (P : Program) (m : Memory) (n : Name) (vs : List Value) → IsThere P (check_cast_work P m n vs)
check_cast_there P m n vs = record { is = grind (arith) }

instance_of_there : (P : Program) (m : Memory) (n : Name) (vs : List Value) → IsThere P (instance_of_work P m n vs)
instance_of_there P m n vs = record { is = grind (arith) }

enter_there : (P : Program) (m : Memory) (vs : List Value) → IsThere P (enter_monitor_work m vs)
enter_there P m vs = record { is = grind (arith) }

leave_there : (P : Program) (m : Memory) (vs : List Value) → IsThere P (leave_monitor_work m vs)
leave_there P m vs = record { is = grind (arith) }

throw_there : (P : Program) (m : Memory) (vs : List Value) → IsThere P (throw_work P m vs)
throw_there P m vs = record { is = grind (arith) }

-- ---- arrays

new_array_there : (P : Program) (m : Memory) (d : Name) (vs : List Value) → IsThere P (new_array_work m d vs)
new_array_there P m d vs = record { is = grind (arith) }

new_arrays_there : (P : Program) (m : Memory) (d : Name) (vs : List Value) → IsThere P (new_arrays_work m d vs)
new_arrays_there P m d vs = record { is = grind (arith) }

array_length_there : (P : Program) (m : Memory) (vs : List Value) → IsThere P (array_length_work m vs)
array_length_there P m vs = record { is = grind (arith) }

load_element_there : (P : Program) (m : Memory) (n : ℕ) (vs : List Value) → IsThere P (load_element_work m n vs)
load_element_there P m n vs = record { is = grind (arith) }

put_element_there : (P : Program) (m : Memory) (n r : ℕ) (i : ℤ) (v : Value) (o : Option Object) → IsThere P (put_element P m n r i v o)
put_element_there P m n r i v o = record { is = grind (arith) }

store_element_there : (P : Program) (m : Memory) (n : ℕ) (vs : List Value) → IsThere P (store_element_work P m n vs)
store_element_there P m n vs = record { is = grind (arith, put_element_there) }

-- ---- calls

run_call_there : (P : Program) (f : Reference) (vs : List Value) → IsThere P (run_call P f vs)
run_call_there P f vs = record { is = grind (arith) }

run_chosen_there : (P : Program) (c : Chosen) (vs : List Value) → IsThere P (run_chosen P c vs)
run_chosen_there P c vs = record { is = grind (arith, run_call_there) }

on_receiver_there : (P : Program) (s : Shape) (n f : Reference) (c : Chosen) (vs : List Value) → IsThere P (on_receiver P s n f c vs)
on_receiver_there P s n f c vs = grind (arith, run_chosen_there)

with_receiver_there : (P : Program) (m : Memory) (d : List ℕ) (of_shape : Shape → Completion) (vs : List Value) → ((s : Shape)
    → IsThere P (of_shape s)) → IsThere P (with_receiver P m d of_shape vs)
with_receiver_there P m d of_shape vs g = record { is = grind (arith, g) }

virtual_on_there : (P : Program) (n f : Reference) (vs : List Value) (s : Shape) → IsThere P (virtual_on P n f vs s)
virtual_on_there P n f vs s = grind (arith, on_receiver_there)

if_conforms_there : (P : Program) (n : Reference) (of_shape : Shape → Completion) → ((s : Shape) → IsThere P (of_shape s))
    → (s : Shape) → IsThere P (if_conforms P n of_shape s)
if_conforms_there P n of_shape g s = grind (arith, g)

call_static_there : (P : Program) (m : Memory) (n : Reference) (f : Option Reference) (vs : List Value)
    → IsThere P (call_static_work P m n f vs)
call_static_there P m n None vs = record { is = tt }
call_static_there P m n (Some f) vs =
    let g = begun_first_there P m f.class (run_call P (as_asked P n f) vs) (run_call_there P (as_asked P n f) vs) in
    if_there_too P _ _ (ends stuck) g (record { is = tt })

call_virtual_there : (P : Program) (m : Memory) (n : Reference) (f : Option Reference) (vs : List Value)
    → IsThere P (call_virtual_work P m n f vs)
call_virtual_there P m n None vs = record { is = tt }
call_virtual_there P m n (Some f) vs =
    let g = with_receiver_there P m n.desc (if_conforms P n (virtual_on P n f vs)) vs (if_conforms_there P n (virtual_on P n f vs)
    (virtual_on_there P n f vs)) in
    grind (arith, g)

interface_on_there : (P : Program) (n f : Reference) (vs : List Value) (s : Shape) → IsThere P (interface_on P n f vs s)
interface_on_there P n f vs s = grind (arith, on_receiver_there)

call_interface_there : (P : Program) (m : Memory) (n : Reference) (f : Option Reference) (vs : List Value)
    → IsThere P (call_interface_work P m n f vs)
call_interface_there P m n None vs = record { is = tt }
call_interface_there P m n (Some f) vs =
    let g = with_receiver_there P m n.desc (interface_on P n f vs) vs (interface_on_there P n f vs) in
    grind (arith, g)

special_on_there : (P : Program) (m : Memory) (n : Reference) (from : Name) (f : Reference) (vs : List Value) (s : Shape)
    → IsThere P (special_on P m n from f vs s)
special_on_there P m n from f vs s =
    if_there_too P (is_object_init f) (gives m []) (on_receiver P s n f (special_choice P from f) vs) (record { is = tt })
    (on_receiver_there P s n f _ vs)

found_special_there : (P : Program) (m : Memory) (n : Reference) (from : Name) (f : Option Reference) (vs : List Value)
    → IsThere P (call_found_special P m n from f vs)
found_special_there P m n from None vs = record { is = tt }
found_special_there P m n from (Some f) vs =
    let g = with_receiver_there P m n.desc (if_conforms P n (special_on P m n from f vs)) vs (if_conforms_there P n
    (special_on P m n from f vs) (special_on_there P m n from f vs)) in
    grind (arith, g)

call_special_there : (P : Program) (m : Memory) (n : Reference) (from : Name) (vs : List Value)
    → IsThere P (call_special_work P m n from vs)
call_special_there P m n from vs = found_special_there P m n from _ vs

call_dynamic_there : (P : Program) (c : Name) (b : ℕ) (n d : List ℕ) (vs : List Value) → IsThere P (call_dynamic_work c b n d vs)
call_dynamic_there P c b n d vs = record { is = grind (arith) }

-- ---- all operations

work_there : (P : Program) (m : Memory) (op : Op) (vs : List Value) → IsThere P (work P m op vs)
work_there P m (ops.push_value v) vs = record { is = tt }
work_there P m (ops.push_constant c) vs = record { is = grind (arith) }
work_there P m (ops.pure_arithmetic o) vs = record { is = grind (arith) }
work_there P m (ops.division o) vs = record { is = grind (arith) }
work_there P m (ops.float_arithmetic o) vs = record { is = grind (arith) }
work_there P m ops.throw_reference vs = throw_there P m vs
work_there P m (ops.get_static f) vs = get_static_there P m _
work_there P m (ops.put_static f i) vs = put_static_there P m _ i vs
work_there P m (ops.get_field f) vs = get_field_there P m f.class _ vs
work_there P m (ops.put_field f i) vs = put_field_there P m f.class _ i vs
work_there P m (ops.call_static f) vs = call_static_there P m f _ vs
work_there P m (ops.call_virtual f) vs = call_virtual_there P m f _ vs
work_there P m (ops.call_interface f) vs = call_interface_there P m f _ vs
work_there P m (ops.call_special f from) vs = call_special_there P m f from vs
work_there P m (ops.call_dynamic c b n d) vs = call_dynamic_there P c b n d vs
work_there P m (ops.new_object c) vs = new_object_there P m c
work_there P m (ops.new_array d) vs = new_array_there P m d vs
work_there P m (ops.new_arrays d n) vs = new_arrays_there P m d vs
work_there P m (ops.load_element o) vs = load_element_there P m (o - IALOAD) vs
work_there P m (ops.store_element o) vs = store_element_there P m (o - IASTORE) vs
work_there P m ops.array_length vs = array_length_there P m vs
work_there P m (ops.check_cast n) vs = check_cast_there P m n vs
work_there P m (ops.instance_of n) vs = instance_of_there P m n vs
work_there P m ops.enter_monitor vs = enter_there P m vs
work_there P m ops.leave_monitor vs = leave_there P m vs
work_there P m op vs = record { is = tt }

-- The class that an operation begins first is one of the folder.
pub begun_is_there : (P : Program) (memory : Memory) (op : Op) (operands : List Value) (class : ℕ)
    → work P memory op operands ≡ begins class
    → (found : RunClass) × (slice_get P.classes class ≡ Some found)
begun_is_there P memory op operands class is = subst (BeginsThere P) is (work_there P memory op operands).is
