-- Field constructors: what is asked of a program for them, what they do, and what their calls and stores come to.
use Rattle.std.proofs.Common.{◌≡◌, ◌+◌, ◌&&◌, ◌||◌, ℕ, Bool, true, false, List, [], ◌∷◌, ◌++◌, bytes_eq, codes, length, reverse, slice_set, Option, Some, IsTrue, refl, ap, ◌∙◌}
use Rattle.std.proofs.lemmas.Slice.Eq.{bytes_eq-Decides}
use Rattle.class_model.specs.Descriptors.{kind_of, parameters_of, type_of, types_before}
use Rattle.class_model.specs.Header.{header_of}
use Rattle.class_model.specs.Members.{FINAL, STATIC, has}
use Rattle.class_model.specs.Names.{init}
use Rattle.class_model.specs.declared.class_file.ClassFile.{ClassFile}
use Rattle.class_model.specs.declared.class_file.MethodAt.{MethodAt}
use Rattle.class_model.specs.declared.descriptor.FieldType.{FieldType}
use Rattle.class_model.specs.declared.descriptor.Kind.TheVariants as kinds
use Rattle.class_model.specs.declared.header.Member.{Member}
use Rattle.class_tree.specs.Headers.{Name, Classes, headers_of}
use Rattle.class_tree.specs.Layouts.{instance_fields, own_fields}
use Rattle.class_tree.specs.Names.{object, method_handle}
use Rattle.machine_values.specs.Frames.{MethodState}
use Rattle.machine_values.specs.Heaps.{Heap, object_at, with_object, with_value}
use Rattle.machine_values.specs.Values.{has_kind, have_kinds, narrowed}
use Rattle.machine_values.specs.declared.frame.RunFrame.{RunFrame}
use Rattle.machine_values.specs.declared.frame.RunFrame.TheVariants.{Method}
use Rattle.machine_values.specs.declared.object.Object.{Object}
use Rattle.machine_values.specs.declared.object.Shape.{Shape}
use Rattle.machine_values.specs.declared.object.Shape.TheVariants.{Folder}
use Rattle.machine_values.specs.declared.value.Value.{Value}
use Rattle.machine_values.specs.declared.value.Value.TheVariants.{Null, Ref}
use Rattle.making_code.specs.FieldConstructor.{superclass_of}
use Rattle.member_link.specs.Machine.Completions.{calls, gives}
use Rattle.member_link.specs.Machine.CallSteps.{call_found_special, found_special}
use Rattle.member_link.specs.Machine.Layouts.{slot_number}
use Rattle.member_link.specs.Machine.Ops.{call_special, put_field}
use Rattle.member_link.specs.Machine.Programs.{Links, Point, Program, field_of, folder_number, has_flag, method_of, name_of_class, place_of_method, point_at, run_method}
use Rattle.member_link.specs.Machine.Runs.{Run}
use Rattle.member_link.specs.Machine.Work.{work}
use Rattle.member_link.specs.Machine.Worlds.{Memory, going, with_heap}
use Rattle.member_link.specs.References.{Reference}
use Rattle.plan_flow.specs.Written.WrittenPrograms.{constructor_method}
use Rattle.same_runs.specs.Laws.Objects.{set_here}
use Rattle.same_runs.specs.Laws.QuietBeginnings.{standing}
use Rattle.same_runs.specs.Simulations.{Quietly}
use Rattle.written_runs.specs.Laws.GivenValues.{FitTypes, set_itself, set_twice, types_of}

-- ---- what is asked of a program

-- an instance field that a class declares, by its number among the fields of an object
pub record HasSlot (Q : Program) (shape : ℕ) (class : Name) (number : ℕ) (field : Member) : Type 0 where
  pub finds : Q.links.field (record { class = class; name = field.name; desc = field.desc })
      ≡ Some (record { class = class; name = field.name; desc = field.desc })
  pub no_static : has_flag (field_of Q (record { class = class; name = field.name; desc = field.desc })) STATIC ≡ false
  pub slot : slot_number Q (name_of_class Q shape) (record { class = class; name = field.name; desc = field.desc }) ≡ Some number

-- those of a list, from a number on
abbrev pub HasSlots : Program → ℕ → Name → ℕ → List Member → Type 0
HasSlots Q shape class number [] = Unit {0}
HasSlots Q shape class number (field ∷ fields) = HasSlot Q shape class number field × HasSlots Q shape class (number + 1) fields

abbrev pub reference_of_constructor : (Name → List ℕ) → Name → Reference
reference_of_constructor constructor class = record { class = class; name = init; desc = constructor class }

-- The class of a class file has its field constructor, which is found for objects of a class of the folder.
pub record IsConstructor (Q : Program) (classes : Classes) (links : Links) (constructor : Name → List ℕ) (shape : ℕ) (file : ClassFile)
    : Type 0 where
  pub found : method_of Q (reference_of_constructor constructor (header_of file).name)
      ≡ Some (constructor_method classes links constructor file).member
  pub at : MethodAt
  pub is_place : place_of_method Q (reference_of_constructor constructor (header_of file).name) ≡ Some at
  pub is_method : run_method Q at ≡ Some (constructor_method classes links constructor file)
  pub last : FieldType
  pub last_reference : kind_of last ≡ kinds.Ref
  pub parameters : parameters_of (constructor (header_of file).name)
      ≡ types_of (instance_fields (headers_of classes) (header_of file).name) ++ last ∷ []
  pub conforms : Q.links.below (name_of_class Q shape) (header_of file).name ≡ true
  pub number : ℕ
  pub of_folder : folder_number Q (header_of file).name ≡ Some number
  pub no_object : bytes_eq (header_of file).name object ≡ false
  pub above : Name
  pub has_above : superclass_of (headers_of classes) (header_of file).name ≡ Some above
  pub fields : instance_fields (headers_of classes) (header_of file).name
      ≡ instance_fields (headers_of classes) above ++ own_fields (headers_of classes) (header_of file).name
  pub own : HasSlots Q shape (header_of file).name (length (instance_fields (headers_of classes) above))
      (own_fields (headers_of classes) (header_of file).name)

-- the superclass is java/lang/Object, without fields and with a superclass initialiser that does nothing
pub record IsBelowObject (Q : Program) (classes : Classes) (shape : ℕ) (above : Name) : Type 0 where
  pub is_object : bytes_eq above object ≡ true
  pub no_fields : instance_fields (headers_of classes) above ≡ []
  pub member : Member
  pub found : method_of Q (record { class = object; name = init; desc = codes "()V" }) ≡ Some member
  pub no_static : has member.flags STATIC ≡ false
  pub conforms : Q.links.below (name_of_class Q shape) object ≡ true

-- a class and those above it have their field constructors
pub data HasConstructors (Q : Program) (classes : Classes) (links : Links) (constructor : Name → List ℕ) (shape : ℕ) : Name → Type 0 where
  highest : (file : ClassFile) (is : IsConstructor Q classes links constructor shape file)
      → IsBelowObject Q classes shape is.above
      → HasConstructors Q classes links constructor shape (header_of file).name
  lower : (file : ClassFile) (is : IsConstructor Q classes links constructor shape file)
      → bytes_eq is.above object ≡ false
      → HasConstructors Q classes links constructor shape is.above
      → HasConstructors Q classes links constructor shape (header_of file).name

-- ---- what it does

-- an object with these values in place of its own
abbrev pub filled : Memory → ℕ → Object → List Value → Memory
filled memory reference one values = with_heap memory (with_object memory.heap reference (record one { values = values }))

-- a frame goes on quietly to another one, and memory to another one
pub record GoesOn (Q : Program) (r : Run) (others : List RunFrame) (memory later : Memory) (f after : MethodState) (steps : ℕ) : Type 0 where
  pub then_steps : ℕ
  pub quietly : Quietly Q (standing r (Method f ∷ others) memory steps) (standing r (Method after ∷ others) later then_steps)

-- The frame stands at a call of the field constructor of a class: with an object whose first fields are those of the class, and with values for
-- them.
pub record AtConstructor (Q : Program) (headers_fields : List Member) (shape : ℕ) (called : Reference) (r : Run) (g : MethodState) (memory : Memory)
    (given behind rest : List Value) (reference : ℕ) (one : Object)
    : Type 0 where
  pub goes : r.world.halt ≡ going
  pub point : Point
  pub is_point : point_at Q g.at g.place ≡ Some point
  pub from : Name
  pub calls_it : point.op ≡ call_special called from
  pub stack : g.stack ≡ reverse (Ref reference ∷ given ++ Null ∷ []) ++ rest
  pub fit : FitTypes (types_of headers_fields) given
  pub is_there : object_at memory.heap reference ≡ Some one
  pub is_shape : one.shape ≡ Folder shape
  pub before : List Value
  pub values : one.values ≡ before ++ behind
  pub as_many : length before ≡ length given

abbrev pub behind_call : MethodState → List Value → MethodState
behind_call g rest = record g { place = g.place + 1; stack = rest }

-- calls of a constructor of a class go on quietly to where the object has the values
pub record FillsObjects (Q : Program) (fields : List Member) (shape : ℕ) (called : Reference) : Type 0 where
  pub fills : (r : Run) (g : MethodState) (memory : Memory) (given behind rest : List Value) (reference : ℕ) (one : Object)
      (others : List RunFrame) (steps : ℕ)
      → AtConstructor Q fields shape called r g memory given behind rest reference one
      → GoesOn Q r others memory (filled memory reference one (given ++ behind)) g (behind_call g rest) steps

-- ---- operations

pub and_false : (b : Bool) → (b && false) ≡ false
and_false true = refl
and_false false = refl

pub bytes_itself : (name : Name) → bytes_eq name name ≡ true
bytes_itself name = (bytes_eq-Decides name name).1 refl

pub or_true : (b : Bool) → (b || true) ≡ true
or_true true = refl
or_true false = refl

pub filled_itself : (memory : Memory) (reference : ℕ) (one : Object) → object_at memory.heap reference ≡ Some one
    → filled memory reference one one.values ≡ memory
filled_itself memory reference one is =
    ap (λ (objects : List Object). with_heap memory (record memory.heap { objects = objects })) (set_itself memory.heap.objects reference one is)

pub filled_twice : (memory : Memory) (reference : ℕ) (one : Object) (values more : List Value)
    → filled (filled memory reference one values) reference (record one { values = values }) more ≡ filled memory reference one more
filled_twice memory reference one values more =
    ap (λ (objects : List Object). with_heap memory (record memory.heap { objects = objects }))
    (set_twice memory.heap.objects reference (record one { values = values }) (record one { values = more }))

pub filled_there : (memory : Memory) (reference : ℕ) (one : Object) (values : List Value) → object_at memory.heap reference ≡ Some one
    → object_at (filled memory reference one values).heap reference ≡ Some (record one { values = values })
filled_there memory reference one values is = set_here memory.heap.objects reference one (record one { values = values }) is

with_value_is : (heap : Heap) (reference number : ℕ) (value : Value) (one : Object) → object_at heap reference ≡ Some one
    → with_value heap reference number value ≡ with_object heap reference (record one { values = slice_set one.values number value })
with_value_is heap reference number value one is = rw (is) refl

-- a value is put into a field of an object
pub puts_value : {Q : Program} {shape : ℕ} (class : Name) (field : Member) (number : ℕ) (memory : Memory) (reference : ℕ) (one : Object) (value : Value)
    (class_number : ℕ)
    → HasSlot Q shape class number field
    → folder_number Q class ≡ Some class_number
    → Q.links.below (name_of_class Q shape) class ≡ true
    → object_at memory.heap reference ≡ Some one
    → one.shape ≡ Folder shape
    → IsTrue (has_kind (kind_of (type_of field.desc)) value)
    → narrowed (type_of field.desc) value ≡ value
    → work Q memory (put_field (record { class = class; name = field.name; desc = field.desc }) (Some class)) (Ref reference ∷ value ∷ [])
    ≡ gives (filled memory reference one (slice_set one.values number value)) []
puts_value {Q = Q} class field number memory reference one value class_number slot of_folder below is is_shape fits kept =
    rw (
      slot.finds,
      slot.no_static,
      fits,
      bytes_itself class,
      and_false (has_flag (field_of Q (record { class = class; name = field.name; desc = field.desc })) FINAL),
    ) (rw (is, is_shape, below) (rw (or_true) (rw (kept, of_folder) (rw (is, is_shape, slot.slot)
    (ap (λ (heap : Heap). gives (with_heap memory heap) []) (with_value_is memory.heap reference number value one is
    ∙ ap (λ (shape : Shape). with_object memory.heap reference (record one { shape = shape; values = slice_set one.values number value })) is_shape))))))

-- the field constructor of a class is called
pub calls_one : {Q : Program} {classes : Classes} {links : Links} {constructor : Name → List ℕ} {shape : ℕ} {file : ClassFile}
    (is : IsConstructor Q classes links constructor shape file) (from : Name) (memory : Memory) (reference : ℕ) (one : Object) (values : List Value)
    → object_at memory.heap reference ≡ Some one
    → one.shape ≡ Folder shape
    → have_kinds (parameters_of (constructor (header_of file).name)) values ≡ true
    → work Q memory (call_special (reference_of_constructor constructor (header_of file).name) from) (Ref reference ∷ values)
    ≡ calls is.at (Ref reference ∷ values)
calls_one {file = file} is from memory reference one values there is_shape fit =
    rw (is.found, fit) (rw (there, is_shape, is.conforms) (rw (or_true)
    (rw (is.no_object, and_false (bytes_eq (header_of file).name method_handle)) (rw (is.found, is.is_place, is.is_method) refl))))

-- the initialiser of java/lang/Object does nothing
pub calls_highest : {Q : Program} {classes : Classes} {shape : ℕ} {above : Name}
    (below : IsBelowObject Q classes shape above) (from : Name) (memory : Memory) (reference : ℕ) (one : Object)
    → object_at memory.heap reference ≡ Some one
    → one.shape ≡ Folder shape
    → work Q memory (call_special (record { class = object; name = init; desc = codes "()V" }) from) (Ref reference ∷ []) ≡ gives memory []
unfolding types_before
calls_highest {Q = Q} below from memory reference one there is_shape =
    ap (λ (found : Option Reference). call_found_special Q memory initialiser from found (Ref reference ∷ [])) itself
    ∙ rw (below.found) (rw (below.no_static) (rw (there, is_shape, below.conforms) (rw (or_true) refl))) where
      initialiser : Reference
      initialiser = record { class = object; name = init; desc = codes "()V" }

      itself : found_special Q initialiser ≡ Some initialiser
      itself = rw (below.found) refl
