-- Descriptors (JVM Specification SE 8, 4.3): the texts of field types and of methods.
use Rattle.std.specs.Prelude.{◌≡◌, ◌==◌, ◌⊎◌, ℕ, zero, suc, ◌+◌, ◌-◌, ◌≤◌, not, List, [], ◌∷◌, ◌++◌, length, take, drop, take_while, replicate, sum_by, Option, Some, None, IfSome, if◌then◌else◌}
use Rattle.std.specs.List.{flat_map, AllByRecursion}
use Rattle.class_model.specs.Characters.{semicolon, left_parenthesis, right_parenthesis, left_bracket, byte_letter, char_letter, double_letter, float_letter, int_letter, long_letter, class_letter, short_letter, void_letter, boolean_letter}
use Rattle.class_model.specs.ModifiedUtf8.{IsText}
use Rattle.class_model.specs.Names.{IsClassName}
use Rattle.class_model.specs.declared.descriptor.Kind.{Kind}
use Rattle.class_model.specs.declared.descriptor.Kind.TheVariants as kinds
use Rattle.class_model.specs.declared.descriptor.FieldType.{FieldType}
use Rattle.class_model.specs.declared.descriptor.FieldType.TheVariants.{Byte, Char, Short, Bool, Int, Long, Float, Double, Named}
use Rattle.class_model.specs.declared.descriptor.Descriptor.{Descriptor}

-- the text of a class or array type: an array type stands for itself, and a class name between L and ;
abbrev pub named_text : List ℕ → List ℕ
named_text [] = class_letter ∷ semicolon ∷ []
named_text (first ∷ rest) =
    if first == left_bracket then first ∷ rest
    else class_letter ∷ (first ∷ rest ++ semicolon ∷ [])

-- the text of a field type (4.3.2)
abbrev pub field_type_text : FieldType → List ℕ
field_type_text Byte = byte_letter ∷ []
field_type_text Char = char_letter ∷ []
field_type_text Double = double_letter ∷ []
field_type_text Float = float_letter ∷ []
field_type_text Int = int_letter ∷ []
field_type_text Long = long_letter ∷ []
field_type_text Short = short_letter ∷ []
field_type_text Bool = boolean_letter ∷ []
field_type_text (Named name) = named_text name

-- a field type that is no array
abbrev pub IsElementType : FieldType → Type 0
IsElementType (Named name) = IsClassName name
IsElementType Byte = Unit {0}
IsElementType Char = Unit {0}
IsElementType Double = Unit {0}
IsElementType Float = Unit {0}
IsElementType Int = Unit {0}
IsElementType Long = Unit {0}
IsElementType Short = Unit {0}
IsElementType Bool = Unit {0}

-- one to 255 brackets and a field type that is no array
pub record IsArrayType (text : List ℕ) : Type 0 where
  pub dimensions : ℕ
  pub element : FieldType
  pub some : 1 ≤ dimensions
  pub few : dimensions ≤ 255
  pub is_element : IsElementType element
  pub spelled : text ≡ replicate dimensions left_bracket ++ field_type_text element

-- what a class or array type may be named
abbrev pub IsReferenceName : List ℕ → Type 0
IsReferenceName name = IsClassName name ⊎ IsArrayType name

-- A class or array type holds a text.
abbrev pub IsFieldType : FieldType → Type 0
IsFieldType (Named name) = IsText name × IsReferenceName name
IsFieldType Byte = Unit {0}
IsFieldType Char = Unit {0}
IsFieldType Double = Unit {0}
IsFieldType Float = Unit {0}
IsFieldType Int = Unit {0}
IsFieldType Long = Unit {0}
IsFieldType Short = Unit {0}
IsFieldType Bool = Unit {0}

-- the text is that of the field type
pub record SpellsFieldType (text : List ℕ) (type : FieldType) : Type 0 where
  pub is_type : IsFieldType type
  pub spelled : text ≡ field_type_text type

-- the kind of the values of a field type: what is narrower than int is an int (2.11.1)
abbrev pub kind_of : FieldType → Kind
kind_of Byte = kinds.Int
kind_of Char = kinds.Int
kind_of Short = kinds.Int
kind_of Bool = kinds.Int
kind_of Int = kinds.Int
kind_of Long = kinds.Long
kind_of Float = kinds.Float
kind_of Double = kinds.Double
kind_of (Named name) = kinds.Ref

-- the local units of a value: long and double take two (2.6.1)
abbrev pub units_of : Kind → ℕ
units_of kinds.Int = 1
units_of kinds.Long = 2
units_of kinds.Float = 1
units_of kinds.Double = 2
units_of kinds.Ref = 1

-- the local units of parameters, without this
abbrev pub parameter_units : List FieldType → ℕ
parameter_units types = sum_by (λ type. units_of (kind_of type)) types

-- V for no result
abbrev pub result_text : Option FieldType → List ℕ
result_text None = void_letter ∷ []
result_text (Some type) = field_type_text type

-- the parameters in parentheses, and the result (4.3.3)
abbrev pub descriptor_text : Descriptor → List ℕ
descriptor_text descriptor =
    left_parenthesis
    ∷ (flat_map field_type_text descriptor.params ++ right_parenthesis
    ∷ result_text descriptor.result)

-- the parameters take at most 255 local units, this not counted
pub record IsDescriptor (descriptor : Descriptor) : Type 0 where
  pub params : AllByRecursion IsFieldType descriptor.params
  pub units : parameter_units descriptor.params ≤ 255
  pub result : IfSome descriptor.result IsFieldType

-- the text is that of the method descriptor
pub record SpellsDescriptor (text : List ℕ) (descriptor : Descriptor) : Type 0 where
  pub is_descriptor : IsDescriptor descriptor
  pub spelled : text ≡ descriptor_text descriptor

-- ---- a text cut into the types that it spells

-- the number of brackets at the front
abbrev pub brackets : List ℕ → ℕ
brackets bytes = length (take_while (λ b. b == left_bracket) bytes)

-- how many bytes the field type at the front takes, by its first byte behind the brackets: up to a semicolon
-- behind L, and else one
abbrev pub element_len : List ℕ → ℕ
element_len [] = 0
element_len (first ∷ rest) =
    if first == class_letter then length (take_while (λ b. not (b == semicolon)) rest) + 2 else 1

-- how many bytes the field type at the front takes
abbrev pub type_len : List ℕ → ℕ
type_len bytes = brackets bytes + element_len (drop (brackets bytes) bytes)

-- the field type of a text, by its first byte
abbrev pub type_of : List ℕ → FieldType
type_of [] = Named []
type_of (first ∷ rest) =
    if first == byte_letter then Byte
    else (if first == char_letter then Char
    else (if first == double_letter then Double
    else (if first == float_letter then Float
    else (if first == int_letter then Int
    else (if first == long_letter then Long
    else (if first == short_letter then Short
    else (if first == boolean_letter then Bool
    else (if first == class_letter then Named (take (length rest - 1) rest)
    else Named (first ∷ rest)))))))))

-- The parameters of a method descriptor's text, from behind its first parenthesis on: the types up to the second.
-- The first number bounds how many there are.
unfoldable pub types_before : ℕ → List ℕ → List FieldType
types_before zero bytes = []
types_before (suc left) [] = []
types_before (suc left) (first ∷ rest) =
    let len = type_len (first ∷ rest) in
    if first == right_parenthesis then []
    else type_of (take len (first ∷ rest)) ∷ types_before left (drop len (first ∷ rest))

-- the parameters that the text of a method descriptor spells
abbrev pub parameters_of : List ℕ → List FieldType
parameters_of text = types_before (length text) (drop 1 text)
