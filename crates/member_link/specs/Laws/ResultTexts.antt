-- The result that the text of a method descriptor spells.
use Rattle.std.proofs.Common.{◌≡◌, ◌+◌, ◌-◌, ℕ, Bool, false, List, [], ◌∷◌, ◌++◌, length, take, drop, inl, inr, Option, Some, None, IfSome, if◌then◌else◌, bytes_eq, codes, refl, sym, ap, ◌∙◌, arith, append_assoc, length-append}
use Rattle.std.proofs.lemmas.List.{drop_at, take_at}
use Rattle.std.specs.List.{flat_map}
use Rattle.class_model.specs.Descriptors.{descriptor_text, named_text, field_type_text, IsFieldType, IsReferenceName, SpellsDescriptor, parameters_of, result_text, type_of}
use Rattle.class_model.specs.Laws.Descriptors.{class_text, array_head, array_text, named}
use Rattle.class_model.specs.PoolChecks.{IsTypeName}
use Rattle.class_model.specs.declared.descriptor.Descriptor.{Descriptor}
use Rattle.class_model.specs.declared.descriptor.FieldType.{FieldType}
use Rattle.class_model.specs.declared.descriptor.FieldType.TheVariants.{Byte, Char, Short, Bool as Boolean, Int, Long, Float, Double, Named}
use Rattle.member_link.specs.Signatures.{result_of}

-- ---- the type of a text

front_of : (name : List ℕ) → take (length (name ++ 59 ∷ []) - 1) (name ++ 59 ∷ []) ≡ name
front_of name = take_at name (59 ∷ []) _ (omega (arith, length-append name (59 ∷ [])))

type_of_class : (name : List ℕ) → type_of (76 ∷ (name ++ 59 ∷ [])) ≡ Named name
type_of_class name = ap Named (front_of name)

type_of_named : (name : List ℕ) → IsReferenceName name → type_of (named_text name) ≡ Named name
type_of_named name (inl class) = rw (class_text name class) (type_of_class name)
type_of_named name (inr array) = let head = array_head name array in rw head.1 refl

pub type_of_spelled : (type : FieldType) → IsTypeName type → type_of (field_type_text type) ≡ type
type_of_spelled Byte named = refl
type_of_spelled Char named = refl
type_of_spelled Short named = refl
type_of_spelled Boolean named = refl
type_of_spelled Int named = refl
type_of_spelled Long named = refl
type_of_spelled Float named = refl
type_of_spelled Double named = refl
type_of_spelled (Named name) named = type_of_named name named

-- ---- the result of a method

behind_parameters : (params result : List ℕ) → drop (length params + 2) (40 ∷ (params ++ 41 ∷ result)) ≡ result
behind_parameters params result =
    let front : List ℕ = 40 ∷ (params ++ 41 ∷ []) in
    let cut : 40 ∷ (params ++ 41 ∷ result) ≡ front ++ result = ap (λ (t : List ℕ). 40 ∷ t) (sym (append_assoc params (41 ∷ []) result)) in
    ap (drop (length params + 2)) cut ∙ drop_at front result (length params + 2) (omega (arith, length-append params (41 ∷ [])))

abbrev read_result : List ℕ → Option FieldType
read_result text = if bytes_eq text (codes "V") then None else Some (type_of text)

no_void : (type : FieldType) → IsTypeName type → bytes_eq (field_type_text type) (codes "V") ≡ false
no_void Byte named = refl
no_void Char named = refl
no_void Short named = refl
no_void Boolean named = refl
no_void Int named = refl
no_void Long named = refl
no_void Float named = refl
no_void Double named = refl
no_void (Named name) (inl class) = ap (λ (t : List ℕ). bytes_eq t (codes "V")) (class_text name class)
no_void (Named name) (inr array) = let head = array_head name array in ap (λ (t : List ℕ). bytes_eq t (codes "V")) (array_text name array ∙ head.1)

result_read : (result : Option FieldType) → IfSome result IsFieldType → read_result (result_text result) ≡ result
result_read None h = refl
result_read (Some type) h =
    let is = named type h in
    ap (λ (void : Bool). if void then None else Some (type_of (field_type_text type))) (no_void type is) ∙ ap Some (type_of_spelled type is)

-- what stands behind the parameters that are cut from the text of a descriptor
result_cut :
    (text : List ℕ) (d : Descriptor)
    → parameters_of text ≡ d.params
    → text ≡ descriptor_text d
    → drop (length (flat_map field_type_text (parameters_of text)) + 2) text ≡ result_text d.result
result_cut text d params spelled =
    ap (λ (types : List FieldType). drop (length (flat_map field_type_text types) + 2) text) params
    ∙ ap (drop (length (flat_map field_type_text d.params) + 2)) spelled
    ∙ behind_parameters (flat_map field_type_text d.params) (result_text d.result)

pub result_spelled : (text : List ℕ) (d : Descriptor) → parameters_of text ≡ d.params → SpellsDescriptor text d → result_of text ≡ d.result
result_spelled text d params spells = ap read_result (result_cut text d params spells.spelled) ∙ result_read d.result spells.is_descriptor.result

-- of a descriptor without a result
pub no_result : (text : List ℕ) (d : Descriptor) → parameters_of text ≡ d.params → text ≡ descriptor_text d → d.result ≡ None → result_of text ≡ None
no_result text d params spelled none = ap read_result (result_cut text d params spelled ∙ ap result_text none)
