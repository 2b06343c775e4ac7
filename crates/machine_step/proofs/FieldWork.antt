-- Reads and stores of fields that are found.
use Rattle.std.proofs.Common.{◌≡◌, ◌≤◌, ◌<◌, ◌⊎◌, ◌↔◌, inl, inr, option_and_then, min, get_or, ℕ, Bool, true, false, cond, List, [], ◌∷◌, length, slice_get, slice_set, Option, Some, None, IsSome, refl, sym, ap, ◌∙◌, arith}
use Rattle.std.proofs.lemmas.Bool.{and_parts}
use Rattle.std.proofs.lemmas.List.{set-get_or, set_past}
use Rattle.std.proofs.lemmas.Option.{get_or_from_slice_get, none-some, slice_get_cases}
use Rattle.std.proofs.lemmas.Slice.Eq.{bytes_eq-Decides}
use Rattle.class_model.specs.Descriptors.{kind_of, type_of}
use Rattle.class_model.specs.Laws.Lists.{none_behind}
use Rattle.class_model.specs.Members.{STATIC}
use Rattle.class_model.specs.declared.descriptor.FieldType.{FieldType}
use Rattle.class_tree.specs.Headers.{Name}
use Rattle.class_tree.specs.Laws.FirstPlaces.{first_passes}
use Rattle.machine_heap.specs.Objects.{value_at}
use Rattle.machine_heap.specs.declared.heap.Put.{Put}
use Rattle.machine_heap.specs.declared.heap.Put.TheVariants.{Done, Outside}
use Rattle.machine_values.specs.Heaps.{Heap, object_at, with_object, with_value}
use Rattle.machine_values.specs.Values.{blank_of_kind, blank_value, has_kind, narrowed}
use Rattle.machine_values.specs.declared.object.Object.{Object}
use Rattle.machine_values.specs.declared.object.Shape.{Shape}
use Rattle.machine_values.specs.declared.object.Shape.TheVariants.{Folder, Array, External}
use Rattle.machine_values.specs.declared.value.Value.{Value}
use Rattle.member_link.specs.Machine.Completions.{Completion, gives, ends}
use Rattle.member_link.specs.Machine.FieldSteps.{begun_first, is_barred, put_field_in, put_field_value, put_field_work, put_into, put_static_begun, put_static_value, put_static_work, static_number}
use Rattle.member_link.specs.Machine.Layouts.{slot_number}
use Rattle.member_link.specs.Machine.Programs.{Program, RunClass, field_of, folder_number, has_flag, member_of, name_of_class, number_of_first}
use Rattle.member_link.specs.Machine.Shapes.{reference_conforms, shape_conforms}
use Rattle.member_link.specs.Machine.Worlds.{Memory, field_desc, static_value, stuck, with_heap, written_static}
use Rattle.member_link.specs.References.{Reference}
use Rattle.machine_step.specs.Completing.{Completes}
use Rattle.machine_step.specs.Inner.FieldWords.{put_conforming, slot_at, slot_in, stored_at}
use Rattle.member_link.specs.RunOps.{IsStoredAs}
use Rattle.machine_step.specs.declared.completed.Completed.{Completed}
use Rattle.member_link.specs.Laws.FirstNumbers.{number_is_place}

-- ---- static fields

module _ (P : Program) (field : Reference) (class number : ℕ) (is : static_number P class field ≡ Some number) where
  pub desc_is : field_desc P class number ≡ field.desc
  desc_is = by (slice_get P.classes class) refl
    where
      by : (found : Option RunClass) → slice_get P.classes class ≡ found → field_desc P class number ≡ field.desc
      by None none =
          let no : static_number P class field ≡ None = rw none refl in
          absurd (none-some number (sym no ∙ is))
      by (Some own) some =
          let first : static_number P class field ≡ number_of_first (member_of field) own.header.fields = rw some refl in
          let passes = first_passes (member_of field) own.header.fields number (sym (number_is_place (member_of field) own.header.fields) ∙ sym first ∙ is) in
          rw (some, passes.there) (sym ((bytes_eq-Decides field.desc passes.item.desc).0 (and_parts _ _ passes.passes).1))

  pub value_blank :
      (memory : Memory) (type : FieldType)
      → written_static memory.statics class number ≡ None
      → IsStoredAs type field.desc
      → static_value P memory class number ≡ blank_of_kind (kind_of type)
  value_blank memory type none stored = rw none (ap blank_value desc_is ∙ ap blank_of_kind stored.kind)

-- ---- numbers of values that are capped

min_set :
    (values : List Value) (n : ℕ) (value : Value)
    → slice_set values n value ≡ slice_set values (min n (length values)) value
min_set values n value = elim (slice_get_cases values n).1 [
  | inl inside ↦ let before : n < length values = inside.1 in ap (λ (at : ℕ). slice_set values at value) {x = n} (omega arith)
  | inr outside ↦ let past : length values ≤ n = outside.0 in set_past values n value past ∙ sym (set_past values (min n (length values)) value (omega arith))
]

-- ---- stores into fields of objects

module _ (P : Program) (memory : Memory) (named : Name) (field : Reference) (at : ℕ) (value : Value) where
  put_there :
      (object : Object)
      → object_at memory.heap at ≡ Some object
      → (slot : ℕ)
      → with_value memory.heap at slot value
      ≡ with_value memory.heap at (min slot (length object.values)) value
  put_there object there slot =
      rw there (ap (λ (values : List Value). with_object memory.heap at (record object { values = values })) (min_set object.values slot value))

  put_at :
      (object : Object)
      → object_at memory.heap at ≡ Some object
      → (shape : Shape)
      → object.shape ≡ shape
      → cond (shape_conforms P shape named) (put_field_value P memory field at value (Some object)) (ends stuck)
      ≡ stored_at memory at value (slot_in P named field object)
  put_at object there (Array desc len) is = by (shape_conforms P (Array desc len) named)
    where
      by :
          (conforms : Bool)
          → cond conforms (put_field_value P memory field at value (Some object)) (ends stuck)
          ≡ stored_at memory at value (slot_in P named field object)
      by true = rw is refl
      by false = rw is refl
  put_at object there (External name also) is = by (shape_conforms P (External name also) named)
    where
      by :
          (conforms : Bool)
          → cond conforms (put_field_value P memory field at value (Some object)) (ends stuck)
          ≡ stored_at memory at value (slot_in P named field object)
      by true = rw is refl
      by false = rw is refl
  put_at object there (Folder own) is = by (shape_conforms P (Folder own) named) refl (slot_number P (name_of_class P own) field) refl
    where
      by :
          (conforms : Bool)
          → shape_conforms P (Folder own) named ≡ conforms
          → (slot : Option ℕ)
          → slot_number P (name_of_class P own) field ≡ slot
          → cond (shape_conforms P (Folder own) named) (put_field_value P memory field at value (Some object)) (ends stuck)
          ≡ stored_at memory at value (slot_in P named field object)
      by false tested slot number = rw (is, tested) refl
      by true tested None number = rw (is, tested, number) refl
      by true tested (Some slot) number = rw (is, tested, number) (ap (λ (heap : Heap). gives (with_heap memory heap) []) (put_there object there slot))

  pub own_put :
      (class : ℕ)
      → folder_number P field.class ≡ Some class
      → (found : Option Object)
      → object_at memory.heap at ≡ found
      → put_conforming P memory named field at value
      ≡ stored_at memory at value (slot_at P memory.heap named field at)
  own_put class home None none = rw none refl
  own_put class home (Some object) there =
      let conforms : reference_conforms P memory.heap at named ≡ shape_conforms P object.shape named = rw there refl in
      let slot : slot_at P memory.heap named field at ≡ slot_in P named field object = rw there refl in
      let tested : Bool → Option ℕ → Completion = λ b number. cond b (put_into P memory field at value number) (ends stuck) in
      ap (λ (b : Bool). tested b (folder_number P field.class)) conforms
      ∙ ap (tested (shape_conforms P object.shape named)) home
      ∙ ap (λ (o : Option Object). cond (shape_conforms P object.shape named) (put_field_value P memory field at value o) (ends stuck)) there
      ∙ put_at object there object.shape refl
      ∙ ap (stored_at memory at value) (sym slot)

-- ---- stores outside an object

set_same :
    (objects : List Object) (at : ℕ) (object : Object)
    → slice_get objects at ≡ Some object
    → slice_set objects at object ≡ objects
set_same objects at object there =
    ap (slice_set objects at) (sym (get_or_from_slice_get objects at object object there))
    ∙ set-get_or objects at object

outside_heap :
    (heap : Heap) (at slot : ℕ) (value : Value)
    → value_at heap at slot ≡ None
    → with_value heap at slot value ≡ heap
outside_heap heap at slot value outside = by (object_at heap at) refl
  where
    by : (found : Option Object) → object_at heap at ≡ found → with_value heap at slot value ≡ heap
    by None none = rw none refl
    by (Some object) there =
        let none : slice_get object.values slot ≡ None =
        sym (ap (option_and_then (λ (o : Object). slice_get o.values slot)) there) ∙ outside
        in
        let past = set_past object.values slot value (none_behind object.values slot none) in
        rw there
        (ap (λ (values : List Value). with_object heap at (record object { values = values })) past
        ∙ ap (λ (objects : List Object). let h : Heap = record heap { objects = objects } in h) (set_same heap.objects at object there))

-- a store that is done, or that is outside the object and changes nothing
pub put_anyway :
    (before after : Memory) (at slot : ℕ) (value : Value) (result : Put)
    → (result ≡ Done) ⊎ (result ≡ Outside)
    → (result ≡ Done) ↔ IsSome (value_at before.heap at slot)
    → (result ≡ Done → after ≡ with_heap before (with_value before.heap at slot value))
    → (result ≡ Outside → after ≡ before)
    → after ≡ with_heap before (with_value before.heap at slot value)
put_anyway before after at slot value result (inl is) answer done outside = done is
put_anyway before after at slot value result (inr is) answer done outside =
    outside is ∙ ap (with_heap before) (sym (outside_heap before.heap at slot value (by (value_at before.heap at slot) answer.1)))
  where
    by : (found : Option Value) → (IsSome found → result ≡ Done) → found ≡ None
    by None some = refl
    by (Some old) some =
        let same : Done ≡ Outside = sym (some refl) ∙ is in
        absurd cc

-- ---- operands

-- there is one
pub one_item :
    (values : List Value) (value : Value)
    → 1 ≤ length values
    → length values < 2
    → value ≡ get_or values 0 value
    → values ≡ value ∷ []
one_item [] value some few is = absurd (omega arith)
one_item (first ∷ []) value some few is = ap (λ (v : Value). v ∷ []) (sym is)
one_item (first ∷ second ∷ values) value some few is = absurd (omega arith)

-- there are two
pub two_items :
    (values : List Value) (one other : Value)
    → 2 ≤ length values
    → length values < 3
    → one ≡ get_or values 0 one
    → other ≡ get_or values 1 other
    → values ≡ one ∷ other ∷ []
two_items [] one other some few is more = absurd (omega arith)
two_items (first ∷ []) one other some few is more = absurd (omega arith)
two_items (first ∷ second ∷ []) one other some few is more =
    ap (λ (v : Value). v ∷ second ∷ []) (sym is) ∙ ap (λ (v : Value). one ∷ v ∷ []) (sym more)
two_items (first ∷ second ∷ third ∷ values) one other some few is more = absurd (omega arith)

-- ---- what an operation comes to

-- by another form of the definition
pub completes_as :
    {before after : Memory} {operands : List Value} {completed : Completed} {one other : Completion}
    → Completes before after operands completed one
    → other ≡ one
    → Completes before after operands completed other
completes_as done same = record { same = same ∙ done.same; keeps = done.keeps }

pub put_unbarred :
    (P : Program) (memory : Memory) (field : Reference) (initialises : Option Name) (value : Value)
    → is_barred P field initialises ≡ false
    → put_static_begun P memory field initialises value
    ≡ put_static_value P memory field (narrowed (type_of field.desc) value)
    (folder_number P field.class)
put_unbarred P memory field initialises value unbarred = rw unbarred refl

pub put_fits :
    (P : Program) (memory : Memory) (field : Reference) (initialises : Option Name) (value : Value)
    → has_flag (field_of P field) STATIC ≡ true
    → has_kind (kind_of (type_of field.desc)) value ≡ true
    → put_static_work P memory (Some field) initialises (value ∷ [])
    ≡ begun_first P memory field.class (put_static_begun P memory field initialises value)
put_fits P memory field initialises value static kind = rw (static, kind) refl

pub put_allowed :
    (P : Program) (memory : Memory) (named : Name) (field : Reference) (initialises : Option Name) (receiver value : Value)
    → has_flag (field_of P field) STATIC ≡ false
    → has_kind (kind_of (type_of field.desc)) value ≡ true
    → is_barred P field initialises ≡ false
    → put_field_work P memory named (Some field) initialises (receiver ∷ value ∷ [])
    ≡ put_field_in P memory named field receiver value
put_allowed P memory named field initialises receiver value static kind unbarred = rw (static, kind, unbarred) refl

-- the class of a home, if it is one of the folder
pub class_there : (home : Option ℕ) → IsSome home → (class : ℕ) × (home ≡ Some class)
class_there None some = absurd cc
class_there (Some class) some = (class, refl)
