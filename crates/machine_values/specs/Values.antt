-- Values and their kinds (JVM Specification SE 8, 2.3, 2.4 and 2.11.1). What is put into a byte, short, char or boolean field or
-- array, or returned at such a type, keeps its low bits: this project's profile.
use Rattle.std.specs.Prelude.{◌==◌, ◌%◌, ◌^◌, ℕ, pos, Bool, true, false, List, [], ◌∷◌, map, Option, Some, None, if◌then◌else◌}
use Rattle.std.specs.Int.{w8, w16, w32, cast_signed, cast_unsigned}
use Rattle.class_model.specs.Characters.{left_bracket}
use Rattle.class_model.specs.Descriptors.{kind_of, type_of}
use Rattle.class_model.specs.declared.descriptor.FieldType.{FieldType}
use Rattle.class_model.specs.declared.descriptor.FieldType.TheVariants as types
use Rattle.class_model.specs.declared.descriptor.Kind.{Kind}
use Rattle.class_model.specs.declared.descriptor.Kind.TheVariants as kinds
use Rattle.class_model.specs.declared.header.Member.{Member}
use Rattle.machine_values.specs.declared.value.Value.{Value}
use Rattle.machine_values.specs.declared.value.Value.TheVariants.{Int, Long, Float, Double, Null, Ref}

abbrev pub has_kind : Kind → Value → Bool
has_kind kinds.Int (Int number) = true
has_kind kinds.Long (Long number) = true
has_kind kinds.Float (Float bits) = true
has_kind kinds.Double (Double bits) = true
has_kind kinds.Ref Null = true
has_kind kinds.Ref (Ref reference) = true
has_kind kind value = false

-- a long or double, which takes two local units
abbrev pub is_wide_value : Value → Bool
is_wide_value (Long number) = true
is_wide_value (Double bits) = true
is_wide_value value = false

-- what a field or element holds before it is written (2.3, 2.4)
abbrev pub blank_of_kind : Kind → Value
blank_of_kind kinds.Int = Int (pos 0)
blank_of_kind kinds.Long = Long (pos 0)
blank_of_kind kinds.Float = Float 0
blank_of_kind kinds.Double = Double 0
blank_of_kind kinds.Ref = Null

-- by the descriptor of a field
abbrev pub blank_value : List ℕ → Value
blank_value desc = blank_of_kind (kind_of (type_of desc))

-- of each of these fields
abbrev pub blank_values : List Member → List Value
blank_values fields = map (λ field. blank_value field.desc) fields

-- an array type behind its first byte: what its elements are
abbrev pub component_text : List ℕ → List ℕ
component_text [] = []
component_text (first ∷ rest) = if first == left_bracket then rest else []

-- the low bits that a type keeps, extended as it says
abbrev pub narrowed : FieldType → Value → Value
narrowed types.Byte (Int number) = Int (cast_signed w8 (cast_unsigned w32 number % 2 ^ 8))
narrowed types.Short (Int number) = Int (cast_signed w16 (cast_unsigned w32 number % 2 ^ 16))
narrowed types.Char (Int number) = Int (pos (cast_unsigned w32 number % 2 ^ 16))
narrowed types.Bool (Int number) = Int (pos (cast_unsigned w32 number % 2))
narrowed type value = value

-- arguments in local units: a long or double takes two, the second without a value (2.6.1)
abbrev pub units_of_values : List Value → List (Option Value)
units_of_values [] = []
units_of_values (Long number ∷ values) = Some (Long number) ∷ None ∷ units_of_values values
units_of_values (Double bits ∷ values) = Some (Double bits) ∷ None ∷ units_of_values values
units_of_values (value ∷ values) = Some value ∷ units_of_values values

-- the values are of the kinds of these types, one by one
abbrev pub have_kinds : List FieldType → List Value → Bool
have_kinds [] [] = true
have_kinds (type ∷ types) (value ∷ values) =
    both (has_kind (kind_of type) value) (have_kinds types values) where
      both : Bool → Bool → Bool
      both true other = other
      both false other = false
have_kinds types values = false
