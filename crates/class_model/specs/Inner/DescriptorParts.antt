-- What stands at the front of bytes that spell a descriptor, and the bytes after it.
use Rattle.std.specs.Prelude.{◌≡◌, ◌≢◌, ◌==◌, ℕ, ◌≤◌, List, ◌∷◌, ◌++◌, replicate, Option, Some, None, IfSome, if◌then◌else◌}
use Rattle.std.specs.List.{flat_map, AllByRecursion}
use Rattle.class_model.specs.Characters.{semicolon, right_parenthesis, left_bracket, byte_letter, char_letter, double_letter, float_letter, int_letter, long_letter, short_letter, boolean_letter}
use Rattle.class_model.specs.Names.{IsClassName}
use Rattle.class_model.specs.Descriptors.{field_type_text, IsElementType, IsArrayType, IsFieldType, kind_of, units_of, parameter_units, result_text}
use Rattle.class_model.specs.PoolChecks.{IsTypeName}
use Rattle.class_model.specs.declared.descriptor.FieldType.{FieldType}
use Rattle.class_model.specs.declared.descriptor.FieldType.TheVariants.{Byte, Char, Short, Bool, Int, Long, Float, Double}

-- the base type of a letter (4.3.2)
abbrev pub base_type_of : ℕ → Option FieldType
base_type_of byte =
    if byte == byte_letter then Some Byte
    else (if byte == char_letter then Some Char
    else (if byte == double_letter then Some Double
    else (if byte == float_letter then Some Float
    else (if byte == int_letter then Some Int
    else (if byte == long_letter then Some Long
    else (if byte == short_letter then Some Short
    else (if byte == boolean_letter then Some Bool
    else None)))))))

-- a class name and a semicolon
pub record ClassNameAt (bytes name rest : List ℕ) : Type 0 where
  pub is_name : IsClassName name
  pub spelled : bytes ≡ name ++ semicolon ∷ rest

-- a field type that is no array
pub record ElementAt (bytes rest : List ℕ) : Type 0 where
  pub element : FieldType
  pub is_element : IsElementType element
  pub spelled : bytes ≡ field_type_text element ++ rest

-- all brackets up to another byte or the end
pub record BracketsAt (bytes rest : List ℕ) : Type 0 where
  pub count : ℕ
  pub spelled : bytes ≡ replicate count left_bracket ++ rest
  pub no_more : (after : List ℕ) → rest ≢ left_bracket ∷ after

-- an array type
pub record ArrayAt (bytes text rest : List ℕ) : Type 0 where
  pub is_array : IsArrayType text
  pub spelled : bytes ≡ text ++ rest

-- a field type
pub record FieldTypeAt (bytes : List ℕ) (type : FieldType) (rest : List ℕ) : Type 0 where
  pub is_type : IsFieldType type
  pub spelled : bytes ≡ field_type_text type ++ rest

-- field types, whose values take at most so many local units, and a closing parenthesis
pub record ParametersAt (units : ℕ) (bytes : List ℕ) (types : List FieldType)
    (rest : List ℕ) : Type 0 where
  pub each : AllByRecursion IsFieldType types
  pub units_fit : parameter_units types ≤ units
  pub spelled : bytes ≡ flat_map field_type_text types ++ right_parenthesis ∷ rest

-- the result, and nothing after it
pub record SpellsResult (bytes : List ℕ) (type : Option FieldType) : Type 0 where
  pub is_type : IfSome type IsFieldType
  pub spelled : bytes ≡ result_text type

-- ---- bytes that need not be a text

-- a field type
pub record TypeAt (bytes : List ℕ) (type : FieldType) (rest : List ℕ) : Type 0 where
  pub is_type : IsTypeName type
  pub spelled : bytes ≡ field_type_text type ++ rest

-- a field type whose values take so many local units
pub record TypeUnitsAt (bytes : List ℕ) (units : ℕ) (rest : List ℕ) : Type 0 where
  pub type : FieldType
  pub at : TypeAt bytes type rest
  pub sum : units ≡ units_of (kind_of type)

-- field types and a closing parenthesis
pub record TypesAt (bytes : List ℕ) (types : List FieldType) (rest : List ℕ) : Type 0 where
  pub each : AllByRecursion IsTypeName types
  pub spelled : bytes ≡ flat_map field_type_text types ++ right_parenthesis ∷ rest

-- field types, whose values take so many local units and at most 255, and a closing parenthesis
pub record UnitsAt (bytes : List ℕ) (units : ℕ) (rest : List ℕ) : Type 0 where
  pub types : List FieldType
  pub at : TypesAt bytes types rest
  pub sum : units ≡ parameter_units types
  pub few : units ≤ 255
