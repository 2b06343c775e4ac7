-- What the head of a class file and its members are asked, in file order (JVM Specification SE 8, 4.1, 4.5 to
-- 4.7). In one member the checks stand at the item of their place: at the flags Flags, Twice, NoCode, HasCode;
-- then the name, the descriptor and the attributes.
use Rattle.std.specs.Prelude.{◌≡◌, ◌==◌, ◌&&◌, ◌||◌, not, ◌+◌, ℕ, Bool, false, List, [], ◌∷◌, ◌++◌, length, bit_and, bytes_eq, codes, Option, Some, IfSome, IsSome, IsTrue, IsFalse}
use Rattle.std.specs.List.{list_any}
use Rattle.class_model.specs.Checks.{Check, check, asked_if, Fault}
use Rattle.class_model.specs.Instructions.{u2_in}
use Rattle.class_model.specs.Names.{IsClassName, IsFieldName}
use Rattle.class_model.specs.Pool.{Constants, constant_at}
use Rattle.class_model.specs.PoolChecks.{utf8_at, class_at, IsFieldDescriptor}
use Rattle.class_model.specs.Spelling.{attr_bytes}
use Rattle.class_model.specs.declared.class_file.Attr.{Attr}
use Rattle.class_model.specs.declared.class_file.Attr.TheVariants.{Raw, Code}
use Rattle.class_model.specs.declared.class_file.Field.{Field}
use Rattle.class_model.specs.declared.fault.FileRule.TheVariants as rules
use Rattle.class_model.specs.declared.pool.Const.{Const}
use Rattle.class_model.specs.declared.pool.Const.TheVariants as consts

-- ---- flags (4.1, 4.5, 4.6)

-- a flag is set
abbrev pub has : ℕ → ℕ → Bool
has flags mask = not (bit_and flags mask == 0)

abbrev pub PUBLIC : ℕ
PUBLIC = 0x0001

abbrev pub PRIVATE : ℕ
PRIVATE = 0x0002

abbrev pub PROTECTED : ℕ
PROTECTED = 0x0004

abbrev pub STATIC : ℕ
STATIC = 0x0008

abbrev pub FINAL : ℕ
FINAL = 0x0010

abbrev pub NATIVE : ℕ
NATIVE = 0x0100

abbrev pub INTERFACE : ℕ
INTERFACE = 0x0200

abbrev pub ABSTRACT : ℕ
ABSTRACT = 0x0400

-- not two of public, private and protected
abbrev pub one_visibility : ℕ → Bool
one_visibility flags =
    not ((has flags PUBLIC && has flags PRIVATE)
    || ((has flags PUBLIC && has flags PROTECTED) || (has flags PRIVATE && has flags PROTECTED)))

-- an interface is abstract and not final
abbrev pub fits_class : ℕ → Bool
fits_class flags = not (has flags INTERFACE) || (has flags ABSTRACT && not (has flags FINAL))

-- the fields of an interface are static
abbrev pub fits_field : ℕ → ℕ → Bool
fits_field class_flags flags =
    one_visibility flags && (not (has class_flags INTERFACE) || has flags STATIC)

-- ---- names of members and attributes

-- two texts that are there and equal; one that cannot be had is equal to none
abbrev pub same_text : Option (List ℕ) → Option (List ℕ) → Bool
same_text (Some one) (Some other) = bytes_eq one other
same_text one other = false

-- the text is there and is this
abbrev pub is_text : List ℕ → Option (List ℕ) → Bool
is_text wanted text = same_text (Some wanted) text

-- the index of an attribute's name
abbrev pub attr_name : Attr → ℕ
attr_name (Raw name bytes) = name
attr_name (Code name part) = name

-- the attribute has this name
abbrev pub is_named : Constants → List ℕ → Attr → Bool
is_named pool name attr = is_text name (utf8_at pool (attr_name attr))

-- one of the attributes has this name
abbrev pub has_named : Constants → List ℕ → List Attr → Bool
has_named pool name attrs = list_any (is_named pool name) attrs

-- the indices of a member's name and descriptor
pub record Signature : Type 0 where
  pub name : ℕ
  pub desc : ℕ

-- two members of one name and descriptor
abbrev pub same_signature : Constants → Signature → Signature → Bool
same_signature pool one other =
    same_text (utf8_at pool one.name) (utf8_at pool other.name)
    && same_text (utf8_at pool one.desc) (utf8_at pool other.desc)

-- a member of the same name and descriptor stands before
abbrev pub stands_before : Constants → List Signature → Signature → Bool
stands_before pool before member = list_any (same_signature pool member) before

-- ---- attributes

-- Attributes one after the other, from the place of the first on; each is asked with those before it.
abbrev pub attrs_checks : (List Attr → ℕ → Attr → List (Check Fault)) → List Attr → ℕ
    → List Attr → List (Check Fault)
attrs_checks asks before at [] = []
attrs_checks asks before at (attr ∷ attrs) =
    asks before at attr
    ++ attrs_checks asks (before ++ attr ∷ []) (at + length (attr_bytes attr)) attrs

-- the name of an attribute is a text
abbrev pub attr_name_check : Constants → ℕ → Attr → Check Fault
attr_name_check pool at attr = check at rules.Index (IsSome (utf8_at pool (attr_name attr)))

-- ---- the head of the class file

-- the index names a class by a class name; at a place
abbrev pub class_name_checks : Constants → ℕ → ℕ → List (Check Fault)
class_name_checks pool at index =
    check at rules.Index (IsSome (class_at pool index))
    ∷ check at rules.Name (IfSome (class_at pool index) IsClassName)
    ∷ []

-- a superclass, or none
abbrev pub super_checks : Constants → ℕ → ℕ → List (Check Fault)
super_checks pool at index = asked_if (not (index == 0)) (class_name_checks pool at index)

-- the direct superinterfaces, from the place of the first on
abbrev pub interfaces_checks : Constants → ℕ → List ℕ → List (Check Fault)
interfaces_checks pool at [] = []
interfaces_checks pool at (index ∷ indices) =
    class_name_checks pool at index ++ interfaces_checks pool (at + 2) indices

-- ---- fields (4.5, 4.7.2)

-- the name of the attribute
abbrev pub constant_value : List ℕ
constant_value = codes "ConstantValue"

-- a constant that a static field of a descriptor may begin with
abbrev pub IsConstantOf : List ℕ → Option Const → Type 0
IsConstantOf descriptor (Some (consts.Integer number)) =
    IsTrue (list_any (bytes_eq descriptor)
    (codes "I" ∷ codes "S" ∷ codes "C" ∷ codes "B" ∷ codes "Z" ∷ []))
IsConstantOf descriptor (Some (consts.Long number)) = descriptor ≡ codes "J"
IsConstantOf descriptor (Some (consts.Float bits)) = descriptor ≡ codes "F"
IsConstantOf descriptor (Some (consts.Double bits)) = descriptor ≡ codes "D"
IsConstantOf descriptor (Some (consts.String text)) = descriptor ≡ codes "Ljava/lang/String;"
IsConstantOf descriptor other = ⊥

-- two bytes that name such a constant
pub record IsConstantValue (pool : Constants) (descriptor : Option (List ℕ))
    (content : List ℕ) : Type 0 where
  pub two_bytes : length content ≡ 2
  pub constant : IfSome descriptor (λ text. IsConstantOf text (constant_at pool (u2_in content 0)))

-- the content of an attribute that is not cut into the parts of a Code
abbrev pub raw_content : Attr → List ℕ
raw_content (Raw name bytes) = bytes
raw_content (Code name part) = []

-- an attribute of a field: the ConstantValue of one that is static stands once and fits
abbrev pub field_attr_checks : Constants → Field → List Attr → ℕ → Attr → List (Check Fault)
field_attr_checks pool field before at attr =
    attr_name_check pool at attr
    ∷ asked_if (has field.flags STATIC && is_named pool constant_value attr)
    (check at rules.Twice (IsFalse (has_named pool constant_value before))
    ∷ check at rules.Constant
    (IsConstantValue pool (utf8_at pool field.desc) (raw_content attr))
    ∷ [])

-- the indices of a field's name and descriptor
abbrev pub field_signature : Field → Signature
field_signature field = record { name = field.name; desc = field.desc }

-- a field at a place, behind fields of these names
abbrev pub field_checks : Constants → ℕ → List Signature → ℕ → Field → List (Check Fault)
field_checks pool class_flags before at field =
    check at rules.Flags (IsTrue (fits_field class_flags field.flags))
    ∷ check at rules.Twice (IsFalse (stands_before pool before (field_signature field)))
    ∷ check (at + 2) rules.Index (IsSome (utf8_at pool field.name))
    ∷ check (at + 2) rules.Name (IfSome (utf8_at pool field.name) IsFieldName)
    ∷ check (at + 4) rules.Index (IsSome (utf8_at pool field.desc))
    ∷ check (at + 4) rules.Descriptor (IfSome (utf8_at pool field.desc) IsFieldDescriptor)
    ∷ attrs_checks (field_attr_checks pool field) [] (at + 8) field.attrs
