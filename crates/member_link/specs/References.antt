-- What the constants of a class file refer to (JVM Specification SE 8, 4.4), and the classes that descriptors name (4.3).
use Rattle.std.specs.Prelude.{◌==◌, ◌-◌, ℕ, List, [], ◌∷◌, length, take, drop, Option, Some, None, IfSome, if◌then◌else◌}
use Rattle.std.specs.List.{AllByRecursion}
use Rattle.class_model.specs.Characters.{class_letter}
use Rattle.class_model.specs.Descriptors.{SpellsFieldType, SpellsDescriptor, brackets}
use Rattle.class_model.specs.Pool.{Constants}
use Rattle.class_model.specs.PoolChecks.{class_at, name_at, descriptor_at}
use Rattle.class_model.specs.declared.descriptor.Descriptor.{Descriptor}
use Rattle.class_model.specs.declared.descriptor.FieldType.{FieldType}
use Rattle.class_model.specs.declared.descriptor.FieldType.TheVariants.{Named, Byte, Char, Short, Bool, Int, Long, Float, Double}
use Rattle.class_tree.specs.Headers.{Name, Headers, IsThere}
use Rattle.member_link.specs.Access.{IsClassAccessible}

-- a member by the class or array that it is looked up in, its name and its descriptor
pub record Reference : Type 0 where
  pub class : Name
  pub name : List ℕ
  pub desc : List ℕ

-- the reference of a class index and a NameAndType index
abbrev pub reference_at : Constants → ℕ → ℕ → Option Reference
reference_at pool class member =
    of_parts (class_at pool class) (name_at pool member) (descriptor_at pool member) where
      of_parts : Option Name → Option (List ℕ) → Option (List ℕ) → Option Reference
      of_parts (Some class) (Some name) (Some desc) =
          Some (record { class = class; name = name; desc = desc })
      of_parts class name desc = None

-- ---- classes that names and types name

-- the class of an array's element, behind its brackets
abbrev class_of_element : List ℕ → Option Name
class_of_element [] = None
class_of_element (first ∷ rest) =
    if first == class_letter then Some (take (length rest - 1) rest) else None

-- the class that a class name or an array type names, if its element is of no base type
abbrev pub element_class : Name → Option Name
element_class name =
    if brackets name == 0 then Some name else class_of_element (drop (brackets name) name)

-- what is asked of the class that a name or a type names
abbrev pub NamesElementClass : (Name → Type 0) → Name → Type 0
NamesElementClass Asked name = IfSome (element_class name) Asked

abbrev pub TypeNames : (Name → Type 0) → FieldType → Type 0
TypeNames Asked (Named name) = NamesElementClass Asked name
TypeNames Asked Byte = Unit {0}
TypeNames Asked Char = Unit {0}
TypeNames Asked Short = Unit {0}
TypeNames Asked Bool = Unit {0}
TypeNames Asked Int = Unit {0}
TypeNames Asked Long = Unit {0}
TypeNames Asked Float = Unit {0}
TypeNames Asked Double = Unit {0}

-- what is asked of the classes that a field's descriptor names
abbrev pub FieldTypeNames : (Name → Type 0) → List ℕ → Type 0
FieldTypeNames Asked text = (type : FieldType) → SpellsFieldType text type → TypeNames Asked type

-- what is asked of the classes that a method's descriptor names
abbrev pub DescriptorNames : (Name → Type 0) → List ℕ → Type 0
DescriptorNames Asked text =
    (descriptor : Descriptor)
    → SpellsDescriptor text descriptor
    → AllByRecursion (TypeNames Asked) descriptor.params
    × IfSome descriptor.result (TypeNames Asked)

-- the class that is named is there
abbrev pub IsNamedThere : Headers → Name → Type 0
IsNamedThere headers name = NamesElementClass (IsThere headers) name

-- the class that is named is accessible
abbrev pub IsNamedAccessible : Headers → Name → Name → Type 0
IsNamedAccessible headers from name = NamesElementClass (IsClassAccessible headers from) name
