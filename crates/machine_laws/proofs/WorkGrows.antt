use Rattle.std.specs.Prelude.{◌≡◌, ◌≤◌, ◌+◌, ◌*◌, ◌-◌, ◌||◌, nat_lt, refl, ℕ, ℤ, pos, negsuc, zero, suc, Bool, true, false, if◌then◌else◌, List, [], ◌∷◌, length, Option, Some, None}
use Rattle.std.proofs.Common.{arith}
use Rattle.std.proofs.Math.Nat.{mul_assoc}
use Rattle.std.proofs.lemmas.Bool.{ltb-false}
use Rattle.class_tree.specs.Headers.{Name}
use Rattle.machine_values.specs.declared.object.Object.{Object}
use Rattle.machine_values.specs.declared.object.Shape.{Shape}
use Rattle.machine_values.specs.declared.value.Value.{Value}
use Rattle.machine_values.specs.declared.value.Value.TheVariants as values
use Rattle.class_model.specs.declared.opcodes.TheConstants.{IALOAD, IASTORE}
use Rattle.machine_laws.proofs.Grows.{KeepObjects, keep_same, keep_through, keep_more, keep_added}
use Rattle.machine_laws.proofs.Rises.{Rises, rises_more, prefix_same, prefix_through, memory_same, counted_rises, one_rises, value_rises, left_rises, entered_rises, constant_rises, statics_rise}
use Rattle.member_link.specs.Machine.ArraySteps.{new_array_work, array_length_work, load_element_work, store_element_work, put_element, nested, made_times, most_elements, is_too_long, arrays_made, gives_arrays, new_arrays_work, arrays_of_counts, counts_of, Counts, all_counts, negative_count, no_counts}
use Rattle.member_link.specs.Machine.CallSteps.{call_static_work, call_virtual_work, call_interface_work, call_special_work, call_dynamic_work, run_call, run_chosen, on_receiver, with_receiver, virtual_on, if_conforms, interface_on, is_object_init, special_choice, special_on, call_found_special}
use Rattle.member_link.specs.Machine.Completions.{Completion, gives, raises, throws, begins, calls, asks, ends}
use Rattle.member_link.specs.Machine.FieldSteps.{get_static_work, put_static_work, get_field_work, put_field_work, begun_first, if_fits, static_number, put_static_value, put_static_begun, put_field_value, put_into, put_field_in, put_field_tested}
use Rattle.machine_laws.specs.Growth.{IsPrefix}
use Rattle.member_link.specs.Machine.Bounds.{MOST_DIMENSIONS}
use Rattle.machine_values.specs.Heaps.{Heap, Made, allocated}
use Rattle.member_link.specs.Machine.ObjectSteps.{new_object_work, check_cast_work, instance_of_work, enter_monitor_work, leave_monitor_work, throw_work}
use Rattle.member_link.specs.Machine.Ops.{Op}
use Rattle.member_link.specs.Machine.Ops as ops
use Rattle.class_model.specs.Members.{STATIC}
use Rattle.machine_values.specs.Values.{component_text}
use Rattle.member_link.specs.Machine.Programs.{Program, Chosen, has_flag, field_of}
use Rattle.member_link.specs.Machine.Work.{work}
use Rattle.member_link.specs.Machine.Worlds.{Memory, stuck, array_too_long, put_static_in}
use Rattle.member_link.specs.References.{Reference}

-- where an operation gives values, the memory rose as in one step, if a premise holds
abbrev pub CompletionRises : Type 0 → Memory → Completion → Type 0
CompletionRises F m (gives after values) = Rises F 1 m after
CompletionRises F m other = Unit {0}

-- the same as a record, whose arguments are found where it is cited
pub record GrownIf (F : Type 0) (m : Memory) (c : Completion) : Type 0 where
  pub is : CompletionRises F m c

abbrev pub Grown : Memory → Completion → Type 0
Grown m c = GrownIf (Unit {0}) m c

pub get_static_grows : (P : Program) (m : Memory) (f : Option Reference) → Grown m (get_static_work P m f)
get_static_grows P m f = record { is = grind (arith, memory_same) }

pub begun_first_grows : (P : Program) (m : Memory) (c : Name) (otherwise : Completion) → Grown m otherwise → Grown m (begun_first P m c otherwise)
begun_first_grows P m c otherwise g = record { is = grind (arith, g) }

pub if_fits_grows : (m : Memory) (f : Reference) (v : Value) (c : Completion) → Grown m c → Grown m (if_fits f v c)
if_fits_grows m f v c g = record { is = grind (arith, g) }

pub if_grows : (m : Memory) (b : Bool) (c d : Completion) → Grown m c → Grown m d → Grown m (if b then c else d)
if_grows m true c d g h = g
if_grows m false c d g h = h

pub put_static_value_grows : (P : Program) (m : Memory) (f : Reference) (v : Value) (c : Option ℕ) → Grown m (put_static_value P m f v c)
put_static_value_grows P m f v None = record { is = tt }
put_static_value_grows P m f v (Some c) = by (static_number P c f) refl where
  by : (n : Option ℕ) → static_number P c f ≡ n → Grown m (put_static_value P m f v (Some c))
  by None e = record { is = rw e tt }
  by (Some n) e = record { is = rw e (statics_rise 1 m (put_static_in m.statics c n v)) }

pub put_static_begun_grows : (P : Program) (m : Memory) (f : Reference) (i : Option Name) (v : Value) → Grown m (put_static_begun P m f i v)
put_static_begun_grows P m f i v = grind (arith, put_static_value_grows)

pub put_static_grows : (P : Program) (m : Memory) (f : Option Reference) (i : Option Name) (vs : List Value) → Grown m (put_static_work P m f i vs)
put_static_grows P m None i vs = record { is = tt }
put_static_grows P m (Some f) i [] = record { is = tt }
put_static_grows P m (Some f) i (v ∷ []) =
    if_grows m (has_flag (field_of P f) STATIC) (if_fits f v (begun_first P m f.class (put_static_begun P m f i v))) (ends stuck)
    (if_fits_grows m f v _ (begun_first_grows P m f.class _ (put_static_begun_grows P m f i v))) (record { is = tt })
put_static_grows P m (Some f) i (v ∷ w ∷ vs) = record { is = tt }

pub get_field_grows : (P : Program) (m : Memory) (n : Name) (f : Option Reference) (vs : List Value) → Grown m (get_field_work P m n f vs)
get_field_grows P m n f vs = record { is = grind (arith, memory_same) }

pub put_field_value_grows : (P : Program) (m : Memory) (f : Reference) (r : ℕ) (v : Value) (o : Option Object) → Grown m (put_field_value P m f r v o)
put_field_value_grows P m f r v o = record { is = grind (arith, value_rises) }

pub put_into_grows : (P : Program) (m : Memory) (f : Reference) (r : ℕ) (v : Value) (c : Option ℕ) → Grown m (put_into P m f r v c)
put_into_grows P m f r v None = record { is = tt }
put_into_grows P m f r v (Some c) = put_field_value_grows P m f r v _

pub put_field_in_grows : (P : Program) (m : Memory) (n : Name) (f : Reference) (o v : Value) → Grown m (put_field_in P m n f o v)
put_field_in_grows P m n f o v = record { is = grind (arith, put_into_grows) }

pub put_field_tested_grows : (P : Program) (m : Memory) (n : Name) (f : Reference) (i : Option Name) (o v : Value) → Grown m (put_field_tested P m n f i o v)
put_field_tested_grows P m n f i o v = grind (arith, put_field_in_grows)

pub put_field_grows : (P : Program) (m : Memory) (n : Name) (f : Option Reference) (i : Option Name) (vs : List Value) → Grown m (put_field_work P m n f i vs)
put_field_grows P m n None i vs = record { is = tt }
put_field_grows P m n (Some f) i [] = record { is = tt }
put_field_grows P m n (Some f) i (o ∷ []) = record { is = tt }
put_field_grows P m n (Some f) i (o ∷ v ∷ []) =
    let g = if_fits_grows m f v _ (put_field_tested_grows P m n f i o v) in
    grind (arith, g)
put_field_grows P m n (Some f) i (o ∷ v ∷ w ∷ vs) = record { is = tt }

pub new_array_grows : (m : Memory) (d : Name) (vs : List Value) → Grown m (new_array_work m d vs)
new_array_grows m d vs = record { is = grind (arith, one_rises) }

pub array_length_grows : (m : Memory) (vs : List Value) → Grown m (array_length_work m vs)
array_length_grows m vs = record { is = grind (arith, memory_same) }

pub load_element_grows : (m : Memory) (n : ℕ) (vs : List Value) → Grown m (load_element_work m n vs)
load_element_grows m n vs = record { is = grind (arith, memory_same) }

pub put_element_grows : (P : Program) (m : Memory) (n r : ℕ) (i : ℤ) (v : Value) (o : Option Object) → Grown m (put_element P m n r i v o)
put_element_grows P m n r i v o = record { is = grind (arith, value_rises) }

pub store_element_grows : (P : Program) (m : Memory) (n : ℕ) (vs : List Value) → Grown m (store_element_work P m n vs)
store_element_grows P m n vs = record { is = grind (arith, put_element_grows) }

pub new_object_grows : (P : Program) (m : Memory) (c : Name) → Grown m (new_object_work P m c)
new_object_grows P m c = record { is = grind (arith, one_rises) }

pub check_cast_grows : (P : Program) (m : Memory) (n : Name) (vs : List Value) → Grown m (check_cast_work P m n vs)
check_cast_grows P m n vs = record { is = grind (arith, memory_same) }

pub instance_of_grows : (P : Program) (m : Memory) (n : Name) (vs : List Value) → Grown m (instance_of_work P m n vs)
instance_of_grows P m n vs = record { is = grind (arith, memory_same) }

pub enter_grows : (m : Memory) (vs : List Value) → Grown m (enter_monitor_work m vs)
enter_grows m vs = record { is = grind (arith, entered_rises) }

pub leave_grows : (m : Memory) (vs : List Value) → Grown m (leave_monitor_work m vs)
leave_grows m vs = record { is = grind (arith, left_rises) }

pub throw_grows : (P : Program) (m : Memory) (vs : List Value) → Grown m (throw_work P m vs)
throw_grows P m vs = record { is = grind (arith) }

pub call_static_grows : (P : Program) (m : Memory) (n : Reference) (f : Option Reference) (vs : List Value) → Grown m (call_static_work P m n f vs)
call_static_grows P m n f vs = record { is = grind (arith) }

pub run_call_grows : (P : Program) (m : Memory) (f : Reference) (vs : List Value) → Grown m (run_call P f vs)
run_call_grows P m f vs = record { is = grind (arith) }

pub run_chosen_grows : (P : Program) (m : Memory) (c : Chosen) (vs : List Value) → Grown m (run_chosen P c vs)
run_chosen_grows P m c vs = record { is = grind (arith, run_call_grows) }

pub on_receiver_grows : (P : Program) (m : Memory) (s : Shape) (n f : Reference) (c : Chosen) (vs : List Value) → Grown m (on_receiver P s n f c vs)
on_receiver_grows P m s n f c vs = grind (arith, run_chosen_grows)

pub with_receiver_grows : (P : Program) (m : Memory) (d : List ℕ) (of_shape : Shape → Completion) (vs : List Value) → ((s : Shape) → Grown m (of_shape s)) → Grown m (with_receiver P m d of_shape vs)
with_receiver_grows P m d of_shape vs g = record { is = grind (arith, g) }

pub virtual_on_grows : (P : Program) (m : Memory) (n f : Reference) (vs : List Value) (s : Shape) → Grown m (virtual_on P n f vs s)
virtual_on_grows P m n f vs s = grind (arith, on_receiver_grows)

pub if_conforms_grows : (P : Program) (m : Memory) (n : Reference) (of_shape : Shape → Completion) → ((s : Shape) → Grown m (of_shape s)) → (s : Shape) → Grown m (if_conforms P n of_shape s)
if_conforms_grows P m n of_shape g s = grind (arith, g)

pub call_virtual_grows : (P : Program) (m : Memory) (n : Reference) (f : Option Reference) (vs : List Value) → Grown m (call_virtual_work P m n f vs)
call_virtual_grows P m n None vs = record { is = tt }
call_virtual_grows P m n (Some f) vs =
    let g = with_receiver_grows P m n.desc (if_conforms P n (virtual_on P n f vs)) vs (if_conforms_grows P m n (virtual_on P n f vs) (virtual_on_grows P m n f vs)) in
    grind (arith, g)

pub interface_on_grows : (P : Program) (m : Memory) (n f : Reference) (vs : List Value) (s : Shape) → Grown m (interface_on P n f vs s)
interface_on_grows P m n f vs s = grind (arith, on_receiver_grows)

pub call_interface_grows : (P : Program) (m : Memory) (n : Reference) (f : Option Reference) (vs : List Value) → Grown m (call_interface_work P m n f vs)
call_interface_grows P m n None vs = record { is = tt }
call_interface_grows P m n (Some f) vs =
    let g = with_receiver_grows P m n.desc (interface_on P n f vs) vs (interface_on_grows P m n f vs) in
    grind (arith, g)

pub special_on_grows : (P : Program) (m : Memory) (n : Reference) (from : Name) (f : Reference) (vs : List Value) (s : Shape) → Grown m (special_on P m n from f vs s)
special_on_grows P m n from f vs s =
    if_grows m (is_object_init f) (gives m []) (on_receiver P s n f (special_choice P from f) vs) (record { is = memory_same 1 m })
    (on_receiver_grows P m s n f _ vs)

pub found_special_grows : (P : Program) (m : Memory) (n : Reference) (from : Name) (f : Option Reference) (vs : List Value) → Grown m (call_found_special P m n from f vs)
found_special_grows P m n from None vs = record { is = tt }
found_special_grows P m n from (Some f) vs =
    let g = with_receiver_grows P m n.desc (if_conforms P n (special_on P m n from f vs)) vs (if_conforms_grows P m n (special_on P m n from f vs) (special_on_grows P m n from f vs)) in
    grind (arith, g)

pub call_special_grows : (P : Program) (m : Memory) (n : Reference) (from : Name) (vs : List Value) → Grown m (call_special_work P m n from vs)
call_special_grows P m n from vs = found_special_grows P m n from _ vs

pub call_dynamic_grows : (m : Memory) (c : Name) (b : ℕ) (n d : List ℕ) (vs : List Value) → Grown m (call_dynamic_work c b n d vs)
call_dynamic_grows m c b n d vs = record { is = grind (arith) }

-- ---- a premise that follows

pub grown_if : {F G : Type 0} {m : Memory} {c : Completion} → (G → F) → GrownIf F m c → GrownIf G m c
grown_if {F = F} {G = G} {m = m} from g = record { is = by _ g.is } where
  by : (c : Completion) → CompletionRises F m c → CompletionRises G m c
  by (gives after values) r = rises_more 1 (omega arith) from r
  by (raises name) r = tt
  by (throws reference) r = tt
  by (begins class) r = tt
  by (calls at values) r = tt
  by (asks asked) r = tt
  by (ends halt) r = tt

-- ---- what tests leave

either_false_left : (a b : Bool) → (a || b) ≡ false → a ≡ false
either_false_left false b e = refl
either_false_left true b e = absurd cc

either_false_right : (a b : Bool) → (a || b) ≡ false → b ≡ false
either_false_right false b e = e
either_false_right true b e = absurd cc

spread : (p c a : ℕ) → p * (1 + c * a) ≡ p + p * c * a
spread p c a = grind (arith, mul_assoc)

-- ---- arrays of arrays

pub record HeapRises (before after : Heap) : Type 0 where
  pub objects : KeepObjects 0 before.objects after.objects
  pub constants : IsPrefix before.constants after.constants

pub heap_same : (h : Heap) → HeapRises h h
heap_same h = record { objects = keep_same 0 _; constants = prefix_same _ }

pub heap_through : {a b c : Heap} → HeapRises a b → HeapRises b c → HeapRises a c
heap_through p q = record { objects = keep_through 0 0 _ _ _ p.objects q.objects; constants = prefix_through p.constants q.constants }

pub heap_added : (h : Heap) (s : Shape) (vs : List Value) → HeapRises h (allocated h s vs).heap
heap_added h s vs = record { objects = keep_added 0 h.objects s vs; constants = prefix_same _ }

pub made_times_grows : (make : Heap → Made) → ((h : Heap) → HeapRises h (make h).heap) → (n : ℕ) (heap : Heap) → HeapRises heap (made_times make n heap).heap
made_times_grows make g zero heap = heap_same heap
made_times_grows make g (suc n) heap = heap_through (g heap) (made_times_grows make g n (make heap).heap)

pub nested_grows : (d : Name) (n : ℕ) (counts : List ℕ) (heap : Heap) → HeapRises heap (nested d n counts heap).heap
nested_grows d n [] heap = heap_added heap _ _
nested_grows d n (next ∷ counts) heap =
    heap_through (made_times_grows (nested (component_text d) next counts) (nested_grows (component_text d) next counts) n heap) (heap_added _ _ _)

-- a product of leading counts, and the arrays that are made behind it
pub few_made : (p c : ℕ) (cs : List ℕ) → is_too_long p (c ∷ cs) ≡ false → p * arrays_made (c ∷ cs) ≤ p + most_elements * length cs
few_made p c [] short = omega arith
few_made p c (d ∷ ds) short =
    let behind = few_made (p * c) d ds (either_false_right (nat_lt most_elements (p * c)) _ short) in
    let within : p * c ≤ most_elements = ltb-false most_elements (p * c) (either_false_left (nat_lt most_elements (p * c)) _ short) in
    let sum : p * (1 + c * arrays_made (d ∷ ds)) ≡ p + p * c * arrays_made (d ∷ ds) = spread p c (arrays_made (d ∷ ds)) in
    omega (arith, behind, within, sum)

-- the counts of operands are as many at most
abbrev pub CountsWithin : ℕ → Counts → Type 0
CountsWithin n (all_counts counts) = length counts ≤ n
CountsWithin n other = Unit {0}

pub counts_within : (vs : List Value) → CountsWithin (length vs) (counts_of vs)
counts_within [] = omega arith
counts_within (values.Int (pos n) ∷ vs) = by (counts_of vs) refl (counts_within vs) where
  by : (x : Counts) → counts_of vs ≡ x → CountsWithin (length vs) x → CountsWithin (suc (length vs)) (counts_of (values.Int (pos n) ∷ vs))
  by (all_counts ns) e w = rw e (omega (arith, w))
  by negative_count e w = rw e tt
  by no_counts e w = rw e tt
counts_within (values.Int (negsuc n) ∷ vs) = by (counts_of vs) refl where
  by : (x : Counts) → counts_of vs ≡ x → CountsWithin (suc (length vs)) (counts_of (values.Int (negsuc n) ∷ vs))
  by (all_counts ns) e = rw e tt
  by negative_count e = rw e tt
  by no_counts e = rw e tt
counts_within (v ∷ vs) = tt

pub counts_fewer : (n k : ℕ) (c : Counts) → n ≤ k → CountsWithin n c → CountsWithin k c
counts_fewer n k (all_counts counts) le w = omega (arith, le, w)
counts_fewer n k negative_count le w = tt
counts_fewer n k no_counts le w = tt

pub arrays_of_counts_grows : (m : Memory) (d : Name) (c : Counts) → GrownIf (CountsWithin MOST_DIMENSIONS c) m (arrays_of_counts m d c)
arrays_of_counts_grows m d (all_counts []) = record { is = tt }
arrays_of_counts_grows m d (all_counts (n ∷ ns)) = by (is_too_long 1 (n ∷ ns)) refl where
  by : (b : Bool) → is_too_long 1 (n ∷ ns) ≡ b
      → GrownIf (length (n ∷ ns) ≤ MOST_DIMENSIONS) m (if b then ends array_too_long else gives_arrays m (arrays_made (n ∷ ns)) (nested d n ns m.heap))
  by true e = record { is = tt }
  by false e =
      let made = nested_grows d n ns m.heap in
      record { is = counted_rises m _ _ (keep_more 0 1 _ _ (omega arith) made.objects) made.constants (λ few. omega (arith, few, few_made 1 n ns e)) }
arrays_of_counts_grows m d negative_count = record { is = tt }
arrays_of_counts_grows m d no_counts = record { is = tt }

pub new_arrays_grows : (m : Memory) (d : Name) (vs : List Value) → GrownIf (length vs ≤ MOST_DIMENSIONS) m (new_arrays_work m d vs)
new_arrays_grows m d vs = grown_if (λ few. counts_fewer (length vs) MOST_DIMENSIONS (counts_of vs) few (counts_within vs)) (arrays_of_counts_grows m d (counts_of vs))

-- ---- all operations

-- as few operands as an array of arrays has dimensions at most
abbrev pub FewOperands : Op → List Value → Type 0
FewOperands (ops.new_arrays d n) vs = length vs ≤ MOST_DIMENSIONS
FewOperands op vs = Unit {0}

pub work_grows : (P : Program) (m : Memory) (op : Op) (vs : List Value) → GrownIf (FewOperands op vs) m (work P m op vs)
work_grows P m (ops.push_value v) vs = record { is = memory_same 1 m }
work_grows P m (ops.push_constant c) vs = record { is = constant_rises 1 m c }
work_grows P m (ops.pure_arithmetic o) vs = grind (arith, memory_same)
work_grows P m (ops.division o) vs = grind (arith, memory_same)
work_grows P m (ops.float_arithmetic o) vs = grind (arith, memory_same)
work_grows P m ops.throw_reference vs = throw_grows P m vs
work_grows P m (ops.get_static f) vs = get_static_grows P m _
work_grows P m (ops.put_static f i) vs = put_static_grows P m _ i vs
work_grows P m (ops.get_field f) vs = get_field_grows P m f.class _ vs
work_grows P m (ops.put_field f i) vs = put_field_grows P m f.class _ i vs
work_grows P m (ops.call_static f) vs = call_static_grows P m f _ vs
work_grows P m (ops.call_virtual f) vs = call_virtual_grows P m f _ vs
work_grows P m (ops.call_interface f) vs = call_interface_grows P m f _ vs
work_grows P m (ops.call_special f from) vs = call_special_grows P m f from vs
work_grows P m (ops.call_dynamic c b n d) vs = call_dynamic_grows m c b n d vs
work_grows P m (ops.new_object c) vs = new_object_grows P m c
work_grows P m (ops.new_array d) vs = new_array_grows m d vs
work_grows P m (ops.new_arrays d n) vs = new_arrays_grows m d vs
work_grows P m (ops.load_element o) vs = load_element_grows m (o - IALOAD) vs
work_grows P m (ops.store_element o) vs = store_element_grows P m (o - IASTORE) vs
work_grows P m ops.array_length vs = array_length_grows m vs
work_grows P m (ops.check_cast n) vs = check_cast_grows P m n vs
work_grows P m (ops.instance_of n) vs = instance_of_grows P m n vs
work_grows P m ops.enter_monitor vs = enter_grows m vs
work_grows P m ops.leave_monitor vs = leave_grows m vs
work_grows P m op vs = record { is = tt }
