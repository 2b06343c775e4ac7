-- Which values conform to verification types (JVM Specification SE 8, 4.10.1.2 and 4.10.1.4), and to what objects, static fields and
-- constants hold (2.4, 2.5.3, 2.7, 5.1).
use Rattle.std.specs.Prelude.{◌≡◌, ℕ, ℤ, List, [], ◌∷◌, length, slice_get, Option, Some, None, IsSome, IsTrue}
use Rattle.std.specs.List.{AllByRecursion}
use Rattle.class_model.specs.Descriptors.{kind_of, type_of}
use Rattle.class_model.specs.declared.descriptor.FieldType.{FieldType}
use Rattle.class_model.specs.declared.descriptor.FieldType.TheVariants as field_types
use Rattle.class_model.specs.declared.frame.VType.{VType}
use Rattle.class_model.specs.declared.frame.VType.TheVariants as types
use Rattle.class_tree.specs.Headers.{Name, class_named}
use Rattle.class_tree.specs.Names.{object}
use Rattle.class_tree.specs.Subtype.{IsArray}
use Rattle.machine_values.specs.Heaps.{Heap, Kept, object_at, class_of_constant}
use Rattle.machine_values.specs.Values.{component_text, has_kind}
use Rattle.machine_values.specs.declared.object.Object.{Object}
use Rattle.machine_values.specs.declared.object.Shape.{Shape}
use Rattle.machine_values.specs.declared.object.Shape.TheVariants as shapes
use Rattle.machine_values.specs.declared.value.Value.{Value}
use Rattle.machine_values.specs.declared.value.Value.TheVariants as values
use Rattle.member_link.specs.Machine.Layouts.{slots_of}
use Rattle.member_link.specs.Machine.Programs.{Program, RunClass, headers_in, folder_number, name_of_class, is_interface_named}
use Rattle.member_link.specs.Machine.Shapes.{class_of_shape, component_named}
use Rattle.member_link.specs.Machine.Worlds.{Memory, StaticValue, field_desc}
use Rattle.member_link.specs.References.{Reference, NamesElementClass}
use Rattle.member_link.specs.RowScope.{RowScope}

-- ---- references

-- a reference is that of an object in the heap
abbrev pub IsInHeap : Heap → ℕ → Type 0
IsInHeap heap reference = IsSome (object_at heap reference)

-- a value is no reference, or one of the heap
abbrev pub IsValueInHeap : Heap → Value → Type 0
IsValueInHeap heap (values.Ref reference) = IsInHeap heap reference
IsValueInHeap heap value = Unit {0}

-- the object of a reference has a shape
pub record HasShape (heap : Heap) (reference : ℕ) (shape : Shape) : Type 0 where
  pub object : Object
  pub is_there : object_at heap reference ≡ Some object
  pub same : object.shape ≡ shape

-- ---- references

-- What an object of one class or array type is taken for: all that it is below, as the type checker has it each interface and
-- java/lang/Object, and an array of references by its component.
pub data NameConforms (P : Program) : Name → Name → Type 0 where
  to_below : {low high : Name} → IsTrue (P.links.below low high) → NameConforms P low high
  to_interface : {low high : Name}
      → IsTrue (is_interface_named P high)
      → NameConforms P low high
  to_object : {low : Name} → NameConforms P low object
  of_components : {low high low_component high_component : Name}
      → component_named (component_text low) ≡ Some low_component
      → component_named (component_text high) ≡ Some high_component
      → NameConforms P low_component high_component
      → NameConforms P low high

-- by its class, or by an interface that an object of the library also implements
pub data ShapeConforms (P : Program) : Shape → Name → Type 0 where
  by_class : {shape : Shape} {name : Name}
      → NameConforms P (class_of_shape P shape) name
      → ShapeConforms P shape name
  by_interface : {class : Name} {also : List Name} {interface name : Name} (number : ℕ)
      → slice_get also number ≡ Some interface
      → NameConforms P interface name
      → ShapeConforms P (shapes.External class also) name

-- ---- verification types

-- An uninitialised object is of the class of its new, which its type names; an uninitialised this is of the folder, of the current class
-- or one below it. On the operand stack, too, any value conforms to Top.
pub data Conforms (P : Program) (s : RowScope) (heap : Heap) : VType → Value → Type 0 where
  to_top : {value : Value} → IsValueInHeap heap value → Conforms P s heap types.Top value
  an_int : {number : ℤ} → Conforms P s heap types.Int (values.Int number)
  a_long : {number : ℤ} → Conforms P s heap types.Long (values.Long number)
  a_float : {bits : ℕ} → Conforms P s heap types.Float (values.Float bits)
  a_double : {bits : ℕ} → Conforms P s heap types.Double (values.Double bits)
  only_null : Conforms P s heap types.Null values.Null
  null_object : {name : Name} → Conforms P s heap (types.Object name) values.Null
  an_object : {name : Name} {reference : ℕ} {shape : Shape}
      → HasShape heap reference shape
      → ShapeConforms P shape name
      → Conforms P s heap (types.Object name) (values.Ref reference)
  of_new : {at reference : ℕ} {name : Name} {shape : Shape}
      → s.new_class at ≡ Some name
      → HasShape heap reference shape
      → class_of_shape P shape ≡ name
      → Conforms P s heap (types.Uninit at) (values.Ref reference)
  of_this : {reference class : ℕ}
      → HasShape heap reference (shapes.Folder class)
      → IsTrue (P.links.below (name_of_class P class) s.own.name)
      → Conforms P s heap types.UninitThis (values.Ref reference)

-- values one by one, the lowest of the stack first
pub data AllConform (P : Program) (s : RowScope) (heap : Heap) : List VType → List Value
    → Type 0 where
  no_values : AllConform P s heap [] []
  and_value : {type : VType} {value : Value} {types : List VType} {values : List Value}
      → Conforms P s heap type value
      → AllConform P s heap types values
      → AllConform P s heap (type ∷ types) (value ∷ values)

-- a local unit without a value, as the second of a long is one, conforms to Top alone
pub data UnitConforms (P : Program) (s : RowScope) (heap : Heap) : VType → Option Value
    → Type 0 where
  no_value : UnitConforms P s heap types.Top None
  has_value : {type : VType} {value : Value}
      → Conforms P s heap type value
      → UnitConforms P s heap type (Some value)

pub data UnitsConform (P : Program) (s : RowScope) (heap : Heap) : List VType → List (Option Value)
    → Type 0 where
  no_units : UnitsConform P s heap [] []
  and_unit : {type : VType} {unit : Option Value} {types : List VType}
      {units : List (Option Value)}
      → UnitConforms P s heap type unit
      → UnitsConform P s heap types units
      → UnitsConform P s heap (type ∷ types) (unit ∷ units)

-- ---- what memory holds

-- null, or a reference to an object that conforms
pub data RefersTo (P : Program) (heap : Heap) (name : Name) : Value → Type 0 where
  to_none : RefersTo P heap name values.Null
  to_one : {reference : ℕ} {shape : Shape}
      → HasShape heap reference shape
      → ShapeConforms P shape name
      → RefersTo P heap name (values.Ref reference)

-- a value of a field type
abbrev pub FieldConforms : Program → Heap → FieldType → Value → Type 0
FieldConforms P heap (field_types.Named name) value = RefersTo P heap name value
FieldConforms P heap type value = IsTrue (has_kind (kind_of type) value)

-- of the type that a descriptor spells
abbrev pub FitsDescriptor : Program → Heap → List ℕ → Value → Type 0
FitsDescriptor P heap desc value = FieldConforms P heap (type_of desc) value

-- values of fields, one by one
abbrev pub FitSlots : Program → Heap → List Reference → List Value → Type 0
FitSlots P heap [] [] = Unit {0}
FitSlots P heap (slot ∷ slots) (value ∷ values) =
    FitsDescriptor P heap slot.desc value × FitSlots P heap slots values
FitSlots P heap slots values = ⊥

-- behind the brackets of an array type stands a base type or a class, which need not be there, and no array again
abbrev pub NamesNoArray : Name → Type 0
NamesNoArray desc = NamesElementClass (λ class. ¬ IsArray class) desc

-- An object of the folder has a value for each field of its class. An array has as many elements as it is long, each of its component
-- type. An object of the library is of one of its classes, and the interfaces that it also implements are interfaces.
pub record IsFolderObject (P : Program) (heap : Heap) (class : ℕ) (values : List Value)
    : Type 0 where
  pub found : RunClass
  pub is_class : slice_get P.classes class ≡ Some found
  pub fields : FitSlots P heap (slots_of P (name_of_class P class)) values

pub record IsArrayObject (P : Program) (heap : Heap) (desc : List ℕ) (len : ℕ)
    (values : List Value)
    : Type 0 where
  pub is_array : IsArray desc
  pub of_element : NamesNoArray desc
  pub as_long : length values ≡ len
  pub elements : AllByRecursion (FitsDescriptor P heap (component_text desc)) values

pub record IsLibraryObject (P : Program) (class : Name) (also : List Name) : Type 0 where
  pub is_there : IsSome (class_named (headers_in P) class)
  pub of_library : folder_number P class ≡ None
  pub interfaces : AllByRecursion (λ name. IsTrue (is_interface_named P name)) also

abbrev pub HoldsShape : Program → Heap → Shape → List Value → Type 0
HoldsShape P heap (shapes.Folder class) values = IsFolderObject P heap class values
HoldsShape P heap (shapes.Array desc len) values = IsArrayObject P heap desc len values
HoldsShape P heap (shapes.External class also) values = IsLibraryObject P class also

-- a constant's reference is that of an object of its class
abbrev pub IsConstantObject : Heap → Kept → Type 0
IsConstantObject heap kept =
    HasShape heap kept.reference (shapes.External (class_of_constant kept.constant) [])

abbrev pub IsTypedStatic : Program → Heap → StaticValue → Type 0
IsTypedStatic P heap static =
    FitsDescriptor P heap (field_desc P static.class static.field) static.value

-- each object holds what its shape says, each constant is an object of its class, and each static field conforms to its type
pub record IsTypedMemory (P : Program) (memory : Memory) : Type 0 where
  pub objects : (reference : ℕ) (object : Object)
      → object_at memory.heap reference ≡ Some object
      → HoldsShape P memory.heap object.shape object.values
  pub constants : AllByRecursion (IsConstantObject memory.heap) memory.heap.constants
  pub statics : AllByRecursion (IsTypedStatic P memory.heap) memory.statics
