-- What a heap keeps where one object or value is new or changed.
use Rattle.std.proofs.Common.{◌≡◌, ◌≢◌, ◌⊎◌, inl, inr, ℕ, zero, suc, ◌==◌, is_some, Bool, true, false, cond, List, [], ◌∷◌, ◌++◌, length, slice_get, slice_set, Option, Some, None, IsSome, option_and_then, option_map, unwrap_or, refl, sym, ap, subst, ◌∙◌, arith}
use Rattle.std.proofs.lemmas.Bool.{cases_Bool, eq-eqb, eqb-true, eqb-false}
use Rattle.std.proofs.lemmas.Option.{slice_get_past}
use Rattle.machine_values.specs.Heaps.{Heap, Kept, Made, allocated, class_of_constant, constant_made, external, kept_in, monitor_count, object_at, same_constant, with_monitor, with_object, with_value}
use Rattle.std.proofs.lemmas.Slice.Eq.{bytes_eq-Decides}
use Rattle.machine_values.specs.declared.object.Constant.{Constant}
use Rattle.machine_values.specs.declared.object.Constant.TheVariants.{Str, Class, MethodType, Handle}
use Rattle.machine_values.specs.declared.object.Object.{Object}
use Rattle.machine_values.specs.declared.object.Shape.{Shape}
use Rattle.machine_values.specs.declared.object.Shape.TheVariants.{External}
use Rattle.machine_values.specs.declared.value.Value.{Value}
use Rattle.machine_heap.specs.Objects.{value_at}

same_or_not : (one other : ℕ) → (one ≡ other) ⊎ (one ≢ other)
same_or_not one other = elim (cases_Bool (one == other)) [ inl same ↦ inl (eqb-true one other same) | inr differ ↦ inr (eqb-false one other differ) ]

-- ---- lists

-- an item that is new is the last
last_item : {X : Type 0} (items : List X) (item : X) → slice_get (items ++ item ∷ []) (length items) ≡ Some item
last_item [] item = refl
last_item (first ∷ items) item = last_item items item

-- and nothing else is
other_items : {X : Type 0} (items : List X) (item : X) (at : ℕ) → at ≢ length items → slice_get (items ++ item ∷ []) at ≡ slice_get items at
other_items [] item zero other = absurd (other refl)
other_items [] item (suc at) other = refl
other_items (first ∷ items) item zero other = refl
other_items (first ∷ items) item (suc at) other = other_items items item at (λ same. other (ap suc same))

-- an item that is written stands there, if one stood there
written_item : {X : Type 0} (items : List X) (item : X) (at : ℕ) → IsSome (slice_get items at) → slice_get (slice_set items at item) at ≡ Some item
written_item [] item at some = absurd cc
written_item (first ∷ items) item zero some = refl
written_item (first ∷ items) item (suc at) some = written_item items item at some

unwritten_item : {X : Type 0} (items : List X) (item : X) (at other : ℕ) → at ≢ other → slice_get (slice_set items at item) other ≡ slice_get items other
unwritten_item [] item at other differ = refl
unwritten_item (first ∷ items) item zero zero differ = absurd (differ refl)
unwritten_item (first ∷ items) item zero (suc other) differ = refl
unwritten_item (first ∷ items) item (suc at) zero differ = refl
unwritten_item (first ∷ items) item (suc at) (suc other) differ = unwritten_item items item at other (λ same. differ (ap suc same))

-- ---- new objects

pub made_object :
    (heap : Heap) (shape : Shape) (values : List Value)
    → object_at (allocated heap shape values).heap (allocated heap shape values).reference
    ≡ Some (record { shape = shape; values = values; monitor = 0 })
made_object heap shape values = last_item heap.objects (record { shape = shape; values = values; monitor = 0 })

pub other_objects :
    (heap : Heap) (shape : Shape) (values : List Value) (at : ℕ)
    → at ≢ (allocated heap shape values).reference
    → object_at (allocated heap shape values).heap at ≡ object_at heap at
other_objects heap shape values at other = other_items heap.objects (record { shape = shape; values = values; monitor = 0 }) at other

-- how often a monitor is entered, by the object
monitor_in : Option Object → ℕ
monitor_in None = 0
monitor_in (Some object) = object.monitor

monitor_is : (heap : Heap) (at : ℕ) → monitor_count heap at ≡ monitor_in (object_at heap at)
unfolding monitor_in
monitor_is heap at = by (object_at heap at) refl
  where
    by : (found : Option Object) → object_at heap at ≡ found → monitor_count heap at ≡ monitor_in (object_at heap at)
    by None e = rw e refl
    by (Some object) e = rw e refl

-- a monitor of a new object is not entered, as one of no object is not
pub monitors_of_made :
    (heap : Heap) (shape : Shape) (values : List Value) (at : ℕ)
    → monitor_count (allocated heap shape values).heap at ≡ monitor_count heap at
unfolding monitor_in
monitors_of_made heap shape values at = elim (same_or_not at (length heap.objects)) [
  | inl same ↦
      let before : object_at heap at ≡ None = slice_get_past heap.objects at (omega (arith, same)) in
      let after : object_at (allocated heap shape values).heap at ≡ Some _ = ap (object_at (allocated heap shape values).heap) same ∙ made_object heap shape values in
      monitor_is (allocated heap shape values).heap at ∙ ap monitor_in after ∙ ap monitor_in (sym before) ∙ sym (monitor_is heap at)
  | inr other ↦ monitor_is (allocated heap shape values).heap at ∙ ap monitor_in (other_objects heap shape values at other) ∙ sym (monitor_is heap at)
]

-- ---- changed objects

changed_object : (heap : Heap) (at : ℕ) (object : Object) → IsSome (object_at heap at) → object_at (with_object heap at object) at ≡ Some object
changed_object heap at object some = written_item heap.objects object at some

unchanged_object : (heap : Heap) (at other : ℕ) (object : Object) → at ≢ other → object_at (with_object heap at object) other ≡ object_at heap other
unchanged_object heap at other object differ = unwritten_item heap.objects object at other differ

-- what is the same of the old and the new object is the same of all objects
alike_objects :
    {X : Type 0} (of : Object → X) (heap : Heap) (at other : ℕ) (old new : Object)
    → object_at heap at ≡ Some old
    → of new ≡ of old
    → option_map of (object_at (with_object heap at new) other) ≡ option_map of (object_at heap other)
alike_objects of heap at other old new is alike = elim (same_or_not at other) [
  | inl same ↦
      let after : object_at (with_object heap at new) other ≡ Some new = ap (object_at (with_object heap at new)) (sym same) ∙ changed_object heap at new (ap is_some is) in
      let before : object_at heap other ≡ Some old = ap (object_at heap) (sym same) ∙ is in
      ap (option_map of) after ∙ ap Some alike ∙ sym (ap (option_map of) before)
  | inr differ ↦ ap (option_map of) (unchanged_object heap at other new differ)
]

-- ---- written values

written_none : (heap : Heap) (at index : ℕ) (value : Value) → object_at heap at ≡ None → with_value heap at index value ≡ heap
written_none heap at index value is = rw is refl

written_some :
    (heap : Heap) (at index : ℕ) (value : Value) (object : Object)
    → object_at heap at ≡ Some object
    → with_value heap at index value ≡ with_object heap at (record object { values = slice_set object.values index value })
written_some heap at index value object is = rw is refl

pub value_written :
    (heap : Heap) (at index : ℕ) (value : Value)
    → IsSome (value_at heap at index)
    → value_at (with_value heap at index value) at index ≡ Some value
value_written heap at index value some = by (object_at heap at) refl some
  where
    by : (found : Option Object) → object_at heap at ≡ found → IsSome (option_and_then (λ object. slice_get object.values index) found) → value_at (with_value heap at index value) at index ≡ Some value
    by None is some = absurd cc
    by (Some object) is some =
        let new : Object = record object { values = slice_set object.values index value } in
        ap (λ (h : Heap). value_at h at index) (written_some heap at index value object is)
        ∙ ap (option_and_then (λ (o : Object). slice_get o.values index)) (changed_object heap at new (ap is_some is))
        ∙ written_item object.values value index some

pub other_values :
    (heap : Heap) (at index other slot : ℕ) (value : Value)
    → (at ≢ other) ⊎ (index ≢ slot)
    → value_at (with_value heap at index value) other slot ≡ value_at heap other slot
other_values heap at index other slot value differ = by (object_at heap at) refl
  where
    read : Option Object → Option Value
    read found = option_and_then (λ object. slice_get object.values slot) found

    by : (found : Option Object) → object_at heap at ≡ found → value_at (with_value heap at index value) other slot ≡ value_at heap other slot
    by None is = ap (λ (h : Heap). value_at h other slot) (written_none heap at index value is)
    by (Some object) is =
        let new : Object = record object { values = slice_set object.values index value } in
        ap (λ (h : Heap). value_at h other slot) (written_some heap at index value object is)
        ∙ elim (same_or_not at other) [
          | inl same ↦ elim differ [
            | inl apart ↦ absurd (apart same)
            | inr apart ↦
                ap (λ (o : ℕ). value_at (with_object heap at new) o slot) (sym same)
                ∙ ap (option_and_then (λ (o : Object). slice_get o.values slot)) (changed_object heap at new (ap is_some is))
                ∙ unwritten_item object.values value index slot apart
                ∙ sym (ap (option_and_then (λ (o : Object). slice_get o.values slot)) is)
                ∙ ap (λ (o : ℕ). value_at heap o slot) same
          ]
          | inr apart ↦ ap (option_and_then (λ (o : Object). slice_get o.values slot)) (unchanged_object heap at other new apart)
        ]

-- shapes and monitors stay where a value is written
kept_where_written :
    {X : Type 0} (of : Object → X)
    → ((object : Object) (values : List Value) → of (record object { values = values }) ≡ of object)
    → (heap : Heap) (at index other : ℕ) (value : Value)
    → option_map of (object_at (with_value heap at index value) other) ≡ option_map of (object_at heap other)
kept_where_written of kept heap at index other value = by (object_at heap at) refl
  where
    by : (found : Option Object) → object_at heap at ≡ found → option_map of (object_at (with_value heap at index value) other) ≡ option_map of (object_at heap other)
    by None is = ap (λ (h : Heap). option_map of (object_at h other)) (written_none heap at index value is)
    by (Some object) is =
        ap (λ (h : Heap). option_map of (object_at h other)) (written_some heap at index value object is)
        ∙ alike_objects of heap at other object (record object { values = slice_set object.values index value }) is (kept object (slice_set object.values index value))

pub shapes_where_written :
    (heap : Heap) (at index other : ℕ) (value : Value)
    → option_map (λ object. object.shape) (object_at (with_value heap at index value) other)
    ≡ option_map (λ object. object.shape) (object_at heap other)
shapes_where_written heap at index other value = kept_where_written (λ object. object.shape) (λ object values. refl) heap at index other value

monitor_as : (found : Option Object) → monitor_in found ≡ unwrap_or (option_map (λ object. object.monitor) found) 0
unfolding monitor_in
monitor_as None = refl
monitor_as (Some object) = refl

pub monitors_where_written :
    (heap : Heap) (at index other : ℕ) (value : Value)
    → monitor_count (with_value heap at index value) other ≡ monitor_count heap other
monitors_where_written heap at index other value =
    monitor_is (with_value heap at index value) other ∙ monitor_as (object_at (with_value heap at index value) other)
    ∙ ap (λ (count : Option ℕ). unwrap_or count 0) (kept_where_written (λ object. object.monitor) (λ object values. refl) heap at index other value)
    ∙ sym (monitor_is heap other ∙ monitor_as (object_at heap other))

-- ---- monitors that are entered and left

counted_none : (heap : Heap) (at count : ℕ) → object_at heap at ≡ None → with_monitor heap at count ≡ heap
counted_none heap at count is = rw is refl

counted_some :
    (heap : Heap) (at count : ℕ) (object : Object)
    → object_at heap at ≡ Some object
    → with_monitor heap at count ≡ with_object heap at (record object { monitor = count })
counted_some heap at count object is = rw is refl

pub count_of_monitor :
    (heap : Heap) (at count : ℕ)
    → IsSome (object_at heap at)
    → monitor_count (with_monitor heap at count) at ≡ count
unfolding monitor_in
count_of_monitor heap at count some = by (object_at heap at) refl some
  where
    by : (found : Option Object) → object_at heap at ≡ found → IsSome found → monitor_count (with_monitor heap at count) at ≡ count
    by None is some = absurd cc
    by (Some object) is some =
        ap (λ (h : Heap). monitor_count h at) (counted_some heap at count object is)
        ∙ monitor_is (with_object heap at (record object { monitor = count })) at
        ∙ ap monitor_in (changed_object heap at (record object { monitor = count }) (ap is_some is))

pub other_monitors :
    (heap : Heap) (at count other : ℕ)
    → at ≢ other
    → object_at (with_monitor heap at count) other ≡ object_at heap other
other_monitors heap at count other differ = by (object_at heap at) refl
  where
    by : (found : Option Object) → object_at heap at ≡ found → object_at (with_monitor heap at count) other ≡ object_at heap other
    by None is = ap (λ (h : Heap). object_at h other) (counted_none heap at count is)
    by (Some object) is = ap (λ (h : Heap). object_at h other) (counted_some heap at count object is) ∙ unchanged_object heap at other (record object { monitor = count }) differ

-- shapes and values stay
kept_where_counted :
    {X : Type 0} (of : Object → X)
    → ((object : Object) (count : ℕ) → of (record object { monitor = count }) ≡ of object)
    → (heap : Heap) (at count other : ℕ)
    → option_map of (object_at (with_monitor heap at count) other) ≡ option_map of (object_at heap other)
kept_where_counted of kept heap at count other = by (object_at heap at) refl
  where
    by : (found : Option Object) → object_at heap at ≡ found → option_map of (object_at (with_monitor heap at count) other) ≡ option_map of (object_at heap other)
    by None is = ap (λ (h : Heap). option_map of (object_at h other)) (counted_none heap at count is)
    by (Some object) is =
        ap (λ (h : Heap). option_map of (object_at h other)) (counted_some heap at count object is)
        ∙ alike_objects of heap at other object (record object { monitor = count }) is (kept object count)

pub shapes_where_counted :
    (heap : Heap) (at count other : ℕ)
    → option_map (λ object. object.shape) (object_at (with_monitor heap at count) other)
    ≡ option_map (λ object. object.shape) (object_at heap other)
shapes_where_counted heap at count other = kept_where_counted (λ object. object.shape) (λ object count. refl) heap at count other

pub values_where_counted :
    (heap : Heap) (at count other : ℕ)
    → option_map (λ object. object.values) (object_at (with_monitor heap at count) other)
    ≡ option_map (λ object. object.values) (object_at heap other)
values_where_counted heap at count other = kept_where_counted (λ object. object.values) (λ object count. refl) heap at count other

-- ---- constants

-- one that is kept is found behind more of them
kept_before : (kept : List Kept) (last : Kept) (constant : Constant) (reference : ℕ) → kept_in kept constant ≡ Some reference → kept_in (kept ++ last ∷ []) constant ≡ Some reference
kept_before [] last constant reference is = absurd cc
kept_before (first ∷ kept) last constant reference is = by (same_constant first.constant constant) is (kept_before kept last constant reference)
  where
    by : (b : Bool) → cond b (Some first.reference) (kept_in kept constant) ≡ Some reference → (kept_in kept constant ≡ Some reference → kept_in (kept ++ last ∷ []) constant ≡ Some reference) → cond b (Some first.reference) (kept_in (kept ++ last ∷ []) constant) ≡ Some reference
    by true is more = is
    by false is more = more is

-- one that is kept last is found, if it was not there
kept_last : (kept : List Kept) (constant : Constant) (reference : ℕ) → same_constant constant constant ≡ true → kept_in kept constant ≡ None → kept_in (kept ++ record { constant = constant; reference = reference } ∷ []) constant ≡ Some reference
kept_last [] constant reference same none = ap (λ (b : Bool). cond b (Some reference) None) same
kept_last (first ∷ kept) constant reference same none = by (same_constant first.constant constant) none (kept_last kept constant reference same)
  where
    last : List Kept
    last = record { constant = constant; reference = reference } ∷ []

    by : (b : Bool) → cond b (Some first.reference) (kept_in kept constant) ≡ None → (kept_in kept constant ≡ None → kept_in (kept ++ record { constant = constant; reference = reference } ∷ []) constant ≡ Some reference) → cond b (Some first.reference) (kept_in (kept ++ record { constant = constant; reference = reference } ∷ []) constant) ≡ Some reference
    by true none more = absurd cc
    by false none more = more none

made_again : (heap : Heap) (constant : Constant) (reference : ℕ) → kept_in heap.constants constant ≡ Some reference → constant_made heap constant ≡ record { heap = heap; reference = reference }
made_again heap constant reference is = rw is refl

made_new :
    (heap : Heap) (constant : Constant)
    → kept_in heap.constants constant ≡ None
    → constant_made heap constant
    ≡ record {
      heap = record (external heap (class_of_constant constant)).heap {
        constants = heap.constants ++ record { constant = constant; reference = length heap.objects } ∷ [];
      };
      reference = length heap.objects;
    }
made_new heap constant is = rw is refl

-- an equal constant
pub same_constant_itself : (constant : Constant) → same_constant constant constant ≡ true
same_constant_itself (Str text) = (bytes_eq-Decides text text).1 refl
same_constant_itself (Class name) = (bytes_eq-Decides name name).1 refl
same_constant_itself (MethodType desc) = (bytes_eq-Decides desc desc).1 refl
same_constant_itself (Handle kind class name desc) = rw (eq-eqb kind kind refl, (bytes_eq-Decides class class).1 refl, (bytes_eq-Decides name name).1 refl, (bytes_eq-Decides desc desc).1 refl) refl

pub constant_kept :
    (heap : Heap) (constant : Constant)
    → kept_in (constant_made heap constant).heap.constants constant
    ≡ Some (constant_made heap constant).reference
constant_kept heap constant = by (kept_in heap.constants constant) refl
  where
    by : (found : Option ℕ) → kept_in heap.constants constant ≡ found → kept_in (constant_made heap constant).heap.constants constant ≡ Some (constant_made heap constant).reference
    by None is = subst (λ (made : Made). kept_in made.heap.constants constant ≡ Some made.reference) (sym (made_new heap constant is)) (kept_last heap.constants constant (length heap.objects) (same_constant_itself constant) is)
    by (Some reference) is = subst (λ (made : Made). kept_in made.heap.constants constant ≡ Some made.reference) (sym (made_again heap constant reference is)) is

pub constants_stay :
    (heap : Heap) (constant other : Constant) (reference : ℕ)
    → kept_in heap.constants other ≡ Some reference
    → kept_in (constant_made heap constant).heap.constants other ≡ Some reference
constants_stay heap constant other reference there = by (kept_in heap.constants constant) refl
  where
    by : (found : Option ℕ) → kept_in heap.constants constant ≡ found → kept_in (constant_made heap constant).heap.constants other ≡ Some reference
    by None is = subst (λ (made : Made). kept_in made.heap.constants other ≡ Some reference) (sym (made_new heap constant is)) (kept_before heap.constants (record { constant = constant; reference = length heap.objects }) other reference there)
    by (Some found) is = subst (λ (made : Made). kept_in made.heap.constants other ≡ Some reference) (sym (made_again heap constant found is)) there

pub objects_beside_constant :
    (heap : Heap) (constant : Constant) (at : ℕ)
    → at ≢ length heap.objects
    → object_at (constant_made heap constant).heap at ≡ object_at heap at
objects_beside_constant heap constant at other = by (kept_in heap.constants constant) refl
  where
    by : (found : Option ℕ) → kept_in heap.constants constant ≡ found → object_at (constant_made heap constant).heap at ≡ object_at heap at
    by None is = ap (λ (made : Made). object_at made.heap at) (made_new heap constant is) ∙ other_objects heap (External (class_of_constant constant) []) [] at other
    by (Some found) is = ap (λ (made : Made). object_at made.heap at) (made_again heap constant found is)

pub monitors_beside_constant :
    (heap : Heap) (constant : Constant) (at : ℕ)
    → monitor_count (constant_made heap constant).heap at ≡ monitor_count heap at
monitors_beside_constant heap constant at = by (kept_in heap.constants constant) refl
  where
    by : (found : Option ℕ) → kept_in heap.constants constant ≡ found → monitor_count (constant_made heap constant).heap at ≡ monitor_count heap at
    by None is = ap (λ (made : Made). monitor_count made.heap at) (made_new heap constant is) ∙ monitors_of_made heap (External (class_of_constant constant) []) [] at
    by (Some found) is = ap (λ (made : Made). monitor_count made.heap at) (made_again heap constant found is)
