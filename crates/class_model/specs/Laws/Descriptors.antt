-- The texts of types and descriptors.
use Rattle.std.proofs.Common.{◌≡◌, ◌≢◌, ◌≤◌, ℕ, zero, suc, List, [], ◌∷◌, ◌++◌, replicate, Option, Some, None, IfSome, refl, sym, subst, ◌∙◌, arith}
use Rattle.std.proofs.lemmas.Bool.Decides.{nat_tests}
use Rattle.std.specs.List.{AllByRecursion, join_with_byte}
use Rattle.class_model.specs.Descriptors.{named_text, field_type_text, IsArrayType, IsFieldType, SpellsDescriptor}
use Rattle.class_model.specs.Names.{IsUnqualifiedName, IsClassName}
use Rattle.class_model.specs.PoolChecks.{IsTypeName, BytesSpell}
use Rattle.class_model.specs.declared.descriptor.FieldType.{FieldType}
use Rattle.class_model.specs.declared.descriptor.FieldType.TheVariants.{Named}
use Rattle.class_model.specs.declared.descriptor.Descriptor.{Descriptor}

-- ---- what names begin with

pub record Head (name : List ℕ) : Type 0 where
  pub first : ℕ
  pub more : List ℕ
  pub is : name ≡ first ∷ more
  pub no_bracket : first ≢ 91

head_of :
    (parts : List (List ℕ))
    → parts ≢ []
    → AllByRecursion IsUnqualifiedName parts
    → Head (join_with_byte 47 parts)
head_of [] some each = absurd (some refl)
head_of ([] ∷ parts) some each = absurd (each.0.some refl)
head_of ((first ∷ front) ∷ []) some each = record { first = first; more = front; is = refl; no_bracket = each.0.bytes.0.no_bracket }
head_of ((first ∷ front) ∷ next ∷ parts) some each = record { first = first; more = front ++ 47 ∷ join_with_byte 47 (next ∷ parts); is = refl; no_bracket = each.0.bytes.0.no_bracket }

pub name_head : (name : List ℕ) → IsClassName name → Head name
name_head name is_name = subst Head (sym is_name.joined) (head_of is_name.parts is_name.some is_name.unqualified)

no_bracket_text :
    (first : ℕ) (more : List ℕ)
    → first ≢ 91
    → named_text (first ∷ more) ≡ 76 ∷ (first ∷ more ++ 59 ∷ [])
no_bracket_text first more other = grind (arith, nat_tests)

pub class_text : (name : List ℕ) → IsClassName name → named_text name ≡ 76 ∷ (name ++ 59 ∷ [])
class_text name is_name = let head = name_head name is_name in rw head.is (no_bracket_text head.first head.more head.no_bracket)

-- an array type begins with a bracket
some_brackets :
    (count : ℕ) (rest : List ℕ)
    → 1 ≤ count
    → (more : List ℕ) × (replicate count 91 ++ rest ≡ 91 ∷ more)
some_brackets zero rest some = absurd (omega arith)
some_brackets (suc count) rest some = (replicate count 91 ++ rest, refl)

pub array_head : (text : List ℕ) → IsArrayType text → (more : List ℕ) × (text ≡ 91 ∷ more)
array_head text is_array = let h = some_brackets is_array.dimensions (field_type_text is_array.element) is_array.some in (h.0, is_array.spelled ∙ h.1)

pub array_text : (text : List ℕ) → IsArrayType text → named_text text ≡ text
array_text text is_array = let h = array_head text is_array in rw h.1 refl

-- ---- a field type is a type name

pub named : (type : FieldType) → IsFieldType type → IsTypeName type
named (Named name) h = h.1
named other h = tt

pub named_types :
    (types : List FieldType) → AllByRecursion IsFieldType types → AllByRecursion IsTypeName types
named_types [] h = tt
named_types (type ∷ types) h = (named type h.0, named_types types h.1)

pub named_result :
    (result : Option FieldType) → IfSome result IsFieldType → IfSome result IsTypeName
named_result None h = tt
named_result (Some type) h = named type h

-- a text that spells a descriptor spells it as bytes
pub bytes_spell : (bytes : List ℕ) (d : Descriptor) → SpellsDescriptor bytes d → BytesSpell bytes d
bytes_spell bytes d s = record { params = named_types d.params s.is_descriptor.params; units = s.is_descriptor.units; result = named_result d.result s.is_descriptor.result; spelled = s.spelled }
