-- What the constants of a pool are asked, in the order of their indices (JVM Specification SE 8, 4.4). Each is
-- asked all that can be said of it, also through its name and descriptor; where an index further down names
-- nothing of its kind, that is the lower entry's own fault. A fault stands at the constant's tag.
use Rattle.std.specs.Prelude.{◌≡◌, ◌≢◌, ◌⊎◌, ℕ, ◌+◌, ◌≤◌, List, [], ◌∷◌, ◌++◌, length, Option, Some, None, IfSome, IsSome, option_and_then}
use Rattle.std.specs.List.{AllByRecursion}
use Rattle.class_model.specs.Checks.{Check, check, Fault}
use Rattle.class_model.specs.Descriptors.{IsReferenceName, field_type_text, descriptor_text, parameter_units}
use Rattle.class_model.specs.ModifiedUtf8.{IsModifiedUtf8}
use Rattle.class_model.specs.Names.{init, clinit, IsUnqualifiedName, IsMethodName, IsFieldName}
use Rattle.class_model.specs.Pool.{Constants, constant_at}
use Rattle.class_model.specs.Spelling.{constant_bytes}
use Rattle.class_model.specs.declared.descriptor.FieldType.{FieldType}
use Rattle.class_model.specs.declared.descriptor.FieldType.TheVariants.{Named}
use Rattle.class_model.specs.declared.descriptor.Descriptor.{Descriptor}
use Rattle.class_model.specs.declared.fault.FileRule.TheVariants as rules
use Rattle.class_model.specs.declared.pool.Const.{Const}
use Rattle.class_model.specs.declared.pool.Const.TheVariants.{Utf8, Integer, Float, Long, Double, Class, String, Fieldref, Methodref, InterfaceMethodref, NameAndType, MethodHandle, MethodType, InvokeDynamic}
use Rattle.class_model.specs.declared.reference_kinds.TheConstants.{REF_GET_FIELD, REF_PUT_STATIC, REF_INVOKE_VIRTUAL, REF_INVOKE_STATIC, REF_INVOKE_SPECIAL, REF_NEW_INVOKE_SPECIAL, REF_INVOKE_INTERFACE}

-- ---- what indices name

-- the text of a Utf8 constant (4.4.7)
abbrev pub text_of : Const → Option (List ℕ)
text_of (Utf8 text) = Some text
text_of other = None

-- the index of the name of a Class constant (4.4.1)
abbrev pub class_name_of : Const → Option ℕ
class_name_of (Class name) = Some name
class_name_of other = None

-- the indices of a NameAndType constant (4.4.6)
abbrev pub name_and_type_of : Const → Option (ℕ × ℕ)
name_and_type_of (NameAndType name descriptor) = Some (name, descriptor)
name_and_type_of other = None

-- the text of the Utf8 constant at an index
abbrev pub utf8_at : Constants → ℕ → Option (List ℕ)
utf8_at pool index = option_and_then text_of (constant_at pool index)

-- the index names a Class constant
abbrev pub IsClassAt : Constants → ℕ → Type 0
IsClassAt pool index = IsSome (option_and_then class_name_of (constant_at pool index))

-- the name of the class of the Class constant at an index
abbrev pub class_at : Constants → ℕ → Option (List ℕ)
class_at pool index =
    option_and_then (utf8_at pool) (option_and_then class_name_of (constant_at pool index))

-- the indices of the name and of the descriptor of the NameAndType constant at an index
abbrev pub name_and_type_at : Constants → ℕ → Option (ℕ × ℕ)
name_and_type_at pool index = option_and_then name_and_type_of (constant_at pool index)

-- the index names a NameAndType constant
abbrev pub IsNameAndTypeAt : Constants → ℕ → Type 0
IsNameAndTypeAt pool index = IsSome (option_and_then name_and_type_of (constant_at pool index))

-- its name, and its descriptor
abbrev pub name_at : Constants → ℕ → Option (List ℕ)
name_at pool index =
    option_and_then (λ n. utf8_at pool n.0)
    (option_and_then name_and_type_of (constant_at pool index))

abbrev pub descriptor_at : Constants → ℕ → Option (List ℕ)
descriptor_at pool index =
    option_and_then (λ n. utf8_at pool n.1)
    (option_and_then name_and_type_of (constant_at pool index))

-- a text, empty where an index names none
abbrev pub text_or_empty : Option (List ℕ) → List ℕ
text_or_empty None = []
text_or_empty (Some text) = text

-- ---- sorts of descriptors

-- A descriptor is asked of the bytes; whether they are a text is asked of the Utf8 constant itself.
abbrev pub IsTypeName : FieldType → Type 0
IsTypeName (Named name) = IsReferenceName name
IsTypeName other = Unit {0}

-- the bytes of a field descriptor (4.3.2)
pub record IsFieldDescriptor (text : List ℕ) : Type 0 where
  pub type : FieldType
  pub named : IsTypeName type
  pub spelled : text ≡ field_type_text type

-- the bytes of a method descriptor (4.3.3)
pub record BytesSpell (text : List ℕ) (descriptor : Descriptor) : Type 0 where
  pub params : AllByRecursion IsTypeName descriptor.params
  pub units : parameter_units descriptor.params ≤ 255
  pub result : IfSome descriptor.result IsTypeName
  pub spelled : text ≡ descriptor_text descriptor

-- bytes of a method descriptor
abbrev pub IsMethodDescriptor : List ℕ → Type 0
IsMethodDescriptor text = (descriptor : Descriptor) × BytesSpell text descriptor

-- a method descriptor without a result
pub record ReturnsVoid (text : List ℕ) : Type 0 where
  pub descriptor : Descriptor
  pub spelled : BytesSpell text descriptor
  pub no_result : descriptor.result ≡ None

-- An instance initialiser has no result. It is asked of method descriptors alone.
abbrev pub InitIsVoid : List ℕ → Option (List ℕ) → Type 0
InitIsVoid name descriptor =
    IfSome descriptor (λ text. name ≡ init → IsMethodDescriptor text → ReturnsVoid text)

-- ---- the checks

-- a name by itself: with a method descriptor it is that of a method
abbrev pub FitsDescriptor : Option (List ℕ) → List ℕ → Type 0
FitsDescriptor descriptor name =
    IsUnqualifiedName name
    × IfSome descriptor (λ text. IsMethodDescriptor text → IsMethodName name)
    × InitIsVoid name descriptor

-- the name of a method that is called: a class initialiser is not
abbrev pub IsCalledName : Option (List ℕ) → List ℕ → Type 0
IsCalledName descriptor name = IsMethodName name × (name ≢ clinit) × InitIsVoid name descriptor

-- the name of a class or an array's descriptor (4.4.1)
abbrev pub class_checks : ℕ → Constants → ℕ → List (Check Fault)
class_checks at pool name =
    check at rules.Index (IsSome (utf8_at pool name))
    ∷ check at rules.Name (IfSome (utf8_at pool name) IsReferenceName)
    ∷ []

-- the text of a string (4.4.3)
abbrev pub string_checks : ℕ → Constants → ℕ → List (Check Fault)
string_checks at pool text = check at rules.Index (IsSome (utf8_at pool text)) ∷ []

-- a field reference (4.4.2)
abbrev pub fieldref_checks : ℕ → Constants → ℕ → ℕ → List (Check Fault)
fieldref_checks at pool class member =
    check at rules.Index (IsClassAt pool class × IsNameAndTypeAt pool member)
    ∷ check at rules.Name (IfSome (name_at pool member) IsFieldName)
    ∷ check at rules.Descriptor (IfSome (descriptor_at pool member) IsFieldDescriptor)
    ∷ []

-- a method reference, of a class or an interface (4.4.2)
abbrev pub methodref_checks : ℕ → Constants → ℕ → ℕ → List (Check Fault)
methodref_checks at pool class member =
    check at rules.Index (IsClassAt pool class × IsNameAndTypeAt pool member)
    ∷ check at rules.Name (IfSome (name_at pool member) (IsCalledName (descriptor_at pool member)))
    ∷ check at rules.Descriptor (IfSome (descriptor_at pool member) IsMethodDescriptor)
    ∷ []

-- a name and its descriptor (4.4.6)
abbrev pub name_and_type_checks : ℕ → Constants → ℕ → ℕ → List (Check Fault)
name_and_type_checks at pool name descriptor =
    check at rules.Index (IsSome (utf8_at pool name) × IsSome (utf8_at pool descriptor))
    ∷ check at rules.Name (IfSome (utf8_at pool name) (FitsDescriptor (utf8_at pool descriptor)))
    ∷ check at rules.Descriptor (IfSome (utf8_at pool descriptor)
    (λ text. IsFieldDescriptor text ⊎ IsMethodDescriptor text))
    ∷ []

-- a method's descriptor (4.4.9)
abbrev pub method_type_checks : ℕ → Constants → ℕ → List (Check Fault)
method_type_checks at pool descriptor =
    check at rules.Index (IsSome (utf8_at pool descriptor))
    ∷ check at rules.Descriptor (IfSome (utf8_at pool descriptor) IsMethodDescriptor)
    ∷ []

-- the name and the descriptor of a dynamic call (4.4.10)
abbrev pub dynamic_checks : ℕ → Constants → ℕ → List (Check Fault)
dynamic_checks at pool member =
    check at rules.Index (IsNameAndTypeAt pool member)
    ∷ check at rules.Name (IfSome (name_at pool member)
    (λ name. IsMethodName name × InitIsVoid name (descriptor_at pool member)))
    ∷ check at rules.Descriptor (IfSome (descriptor_at pool member) IsMethodDescriptor)
    ∷ []

-- a constant that refers to a field, a method of a class, or a method of an interface (4.4.2)
abbrev pub IsFieldConstant : Option Const → Type 0
IsFieldConstant (Some (Fieldref class member)) = Unit {0}
IsFieldConstant other = ⊥

abbrev pub IsMethodConstant : Option Const → Type 0
IsMethodConstant (Some (Methodref class member)) = Unit {0}
IsMethodConstant other = ⊥

abbrev pub IsInterfaceConstant : Option Const → Type 0
IsInterfaceConstant (Some (InterfaceMethodref class member)) = Unit {0}
IsInterfaceConstant other = ⊥

-- the index of the name and descriptor of what a constant refers to
abbrev pub member_of : Const → Option ℕ
member_of (Fieldref class member) = Some member
member_of (Methodref class member) = Some member
member_of (InterfaceMethodref class member) = Some member
member_of other = None

-- the name of the member that a reference at an index names
abbrev pub referred_name : Constants → ℕ → Option (List ℕ)
referred_name pool index =
    option_and_then (name_at pool) (option_and_then member_of (constant_at pool index))

-- a method that a static or special call names, in a class file of this major version
abbrev pub IsMethodConstantOf : ℕ → Option Const → Type 0
IsMethodConstantOf major constant =
    IsMethodConstant constant ⊎ ((major ≡ 52) × IsInterfaceConstant constant)

-- What a method handle of a kind refers to (4.4.8): one of the first four kinds to a field, the others to a method. Of a static or special
-- call it may in version 52 be an interface's, and of an interface call it is. A new one's is an instance initialiser, and no other's.
abbrev pub RefersWell : ℕ → Constants → ℕ → ℕ → Type 0
RefersWell major pool kind reference =
    let constant = constant_at pool reference in
    let name = referred_name pool reference in
    ((REF_GET_FIELD ≤ kind) × (kind ≤ REF_PUT_STATIC) × IsFieldConstant constant)
    ⊎ (((kind ≡ REF_INVOKE_VIRTUAL)
    × IsMethodConstant constant
    × IfSome name (λ n. n ≢ init))
    ⊎ (((REF_INVOKE_STATIC ≤ kind)
    × (kind ≤ REF_INVOKE_SPECIAL)
    × IsMethodConstantOf major constant
    × IfSome name (λ n. n ≢ init))
    ⊎ (((kind ≡ REF_NEW_INVOKE_SPECIAL)
    × IsMethodConstant constant
    × IfSome name (λ n. n ≡ init))
    ⊎ ((kind ≡ REF_INVOKE_INTERFACE)
    × IsInterfaceConstant constant
    × IfSome name (λ n. n ≢ init)))))

-- a method handle (4.4.8)
abbrev pub handle_checks : ℕ → ℕ → Constants → ℕ → ℕ → List (Check Fault)
handle_checks major at pool kind reference =
    check at rules.Index (RefersWell major pool kind reference) ∷ []

-- a constant at a place, in a class file of this major version
abbrev pub constant_checks : ℕ → Constants → ℕ → Const → List (Check Fault)
constant_checks major pool at (Utf8 text) = check at rules.Text (IsModifiedUtf8 text) ∷ []
constant_checks major pool at (Integer number) = []
constant_checks major pool at (Float bits) = []
constant_checks major pool at (Long number) = []
constant_checks major pool at (Double bits) = []
constant_checks major pool at (Class name) = class_checks at pool name
constant_checks major pool at (String text) = string_checks at pool text
constant_checks major pool at (Fieldref class member) = fieldref_checks at pool class member
constant_checks major pool at (Methodref class member) = methodref_checks at pool class member
constant_checks major pool at (InterfaceMethodref class member) =
    methodref_checks at pool class member
constant_checks major pool at (NameAndType name descriptor) =
    name_and_type_checks at pool name descriptor
constant_checks major pool at (MethodHandle kind reference) =
    handle_checks major at pool kind reference
constant_checks major pool at (MethodType descriptor) = method_type_checks at pool descriptor
constant_checks major pool at (InvokeDynamic bootstrap member) = dynamic_checks at pool member

-- entries one after the other, from a place on
abbrev pub entries_checks : ℕ → Constants → ℕ → Constants → List (Check Fault)
entries_checks major pool at [] = []
entries_checks major pool at (None ∷ entries) = entries_checks major pool at entries
entries_checks major pool at (Some constant ∷ entries) =
    constant_checks major pool at constant
    ++ entries_checks major pool (at + length (constant_bytes constant)) entries
