-- Field types are decided: what stands at the front of bytes, and the whole of them.
use Rattle.std.proofs.Common.{◌≡◌, ◌⊎◌, inl, inr, ℕ, suc, ◌<◌, ◌≤◌, false, List, [], ◌∷◌, ◌++◌, length, replicate, Option, Some, None, is_some, refl, sym, ap, subst, ◌∙◌, arith, length-append}
use Rattle.std.proofs.lemmas.Bool.{cases_eq}
use Rattle.std.proofs.lemmas.List.{append-nil}
use Rattle.class_model.specs.Code.{HasDimensions}
use Rattle.class_model.specs.Laws.Descriptors.{array_text}
use Rattle.class_model.specs.Names.{IsClassName}
use Rattle.class_model.specs.Descriptors.{field_type_text, IsElementType, IsArrayType, IsReferenceName, IsFieldType}
use Rattle.class_model.specs.Inner.DescriptorParts.{base_type_of, ClassNameAt, ElementAt, BracketsAt, ArrayAt, TypeAt}
use Rattle.class_model.specs.PoolChecks.{IsTypeName, IsFieldDescriptor}
use Rattle.class_model.specs.declared.descriptor.FieldType.{FieldType}
use Rattle.class_model.specs.declared.descriptor.FieldType.TheVariants.{Named}
use Rattle.class_model.specs.Laws.Decisions.{Decision, mapped, both, either}
use Rattle.class_model.proofs.Decisions.{at_most}
use Rattle.class_model.proofs.DecidedNames.{class_name, text}
use Rattle.class_model.proofs.DescriptorGrammar.{LacksSemicolon, one_split, name_lacks, element_form, one_element, one_count, element_lacks, one_array, FieldForm, named_form, one_form, element_of_class, element_of_base, no_element, no_class, array_of_element, element_of_array, at_whole, whole_array, begins_type, begins}

-- ---- a class name up to a semicolon

record Split (bytes : List ℕ) : Type 0 where
  pub name : List ℕ
  pub rest : List ℕ
  pub lacks : LacksSemicolon name
  pub is : bytes ≡ name ++ 59 ∷ rest

split : (bytes : List ℕ) → Split bytes ⊎ LacksSemicolon bytes
split [] = inr tt
split (byte ∷ bytes) = elim (cases_eq byte 59) [
  | inl same ↦ inl (record { name = []; rest = bytes; lacks = tt; is = cc })
  | inr other ↦ elim (split bytes) [
    | inl s ↦ inl (record { name = byte ∷ s.name; rest = s.rest; lacks = (other, s.lacks); is = ap (λ (t : List ℕ). byte ∷ t) s.is })
    | inr lacks ↦ inr (other, lacks)
  ]
]

has_semicolon : (name rest : List ℕ) → ¬ LacksSemicolon (name ++ 59 ∷ rest)
has_semicolon [] rest lacks = lacks.0 refl
has_semicolon (byte ∷ name) rest lacks = has_semicolon name rest lacks.1

abbrev ClassFront : List ℕ → Type 0
ClassFront bytes = ((name : List ℕ) × (rest : List ℕ) × ClassNameAt bytes name rest) ⊎ ((name rest : List ℕ) → ¬ ClassNameAt bytes name rest)

class_of_split : (bytes : List ℕ) → Split bytes → ClassFront bytes
class_of_split bytes s = elim (class_name s.name) [
  | inl is ↦ inl (s.name, s.rest, record { is_name = is; spelled = s.is })
  | inr never ↦ inr (λ name rest at. never (subst IsClassName (one_split name s.name rest s.rest (name_lacks name at.is_name) s.lacks (sym at.spelled ∙ s.is)).0 at.is_name))
]

class_front : (bytes : List ℕ) → ClassFront bytes
class_front bytes = elim (split bytes) [
  | inl s ↦ class_of_split bytes s
  | inr lacks ↦ inr (λ name rest at. has_semicolon name rest (subst LacksSemicolon at.spelled lacks))
]

-- ---- a field type that is no array

abbrev ElementFront : List ℕ → Type 0
ElementFront bytes = ((rest : List ℕ) × ElementAt bytes rest) ⊎ ((rest : List ℕ) → ¬ ElementAt bytes rest)

nothing_at_end : (rest : List ℕ) → ¬ ElementAt [] rest
nothing_at_end rest at = elim (element_form at.element at.is_element) [
  | inl a ↦ absurd (let e : [] ≡ a.0 ∷ rest = rw a.1.text at at.spelled in cc)
  | inr a ↦ absurd (let e : [] ≡ 76 ∷ ((a.0 ++ 59 ∷ []) ++ rest) = rw a.1.text at at.spelled in cc)
]

no_base : (first : ℕ) (bytes : List ℕ) → is_some (base_type_of first) ≡ false → ElementFront (first ∷ bytes)
no_base first bytes none = elim (cases_eq first 76) [
  | inl class ↦ elim (class_front bytes) [
    | inl c ↦ inl (c.1, element_of_class (first ∷ bytes) bytes c.0 c.1 (cc) c.2)
    | inr never ↦ inr (no_class (first ∷ bytes) bytes (cc) never)
  ]
  | inr other ↦ inr (no_element (first ∷ bytes) bytes first refl other none)
]

by_base : (first : ℕ) (bytes : List ℕ) (found : Option FieldType) → found ≡ base_type_of first → ElementFront (first ∷ bytes)
by_base first bytes None e = no_base first bytes (ap is_some (sym e))
by_base first bytes (Some type) e = inl (bytes, element_of_base (first ∷ bytes) bytes first (Some type) refl e refl)

element_front : (bytes : List ℕ) → ElementFront bytes
element_front [] = inr nothing_at_end
element_front (first ∷ bytes) = by_base first bytes (base_type_of first) refl

-- and it is the whole
some_left : (bytes rest : List ℕ) → ElementAt bytes rest → Decision (ElementAt bytes [])
some_left bytes [] at = inl at
some_left bytes (byte ∷ rest) at = inr (λ all. absurd (let e = (one_element at.element all.element (byte ∷ rest) [] at.is_element all.is_element (sym at.spelled ∙ all.spelled)).1 in cc))

whole_element : (bytes : List ℕ) → Decision (ElementAt bytes [])
whole_element bytes = elim (element_front bytes) [
  | inl f ↦ some_left bytes f.0 f.1
  | inr never ↦ inr (never [])
]

-- ---- arrays

record Brackets (bytes : List ℕ) : Type 0 where
  pub rest : List ℕ
  pub at : BracketsAt bytes rest

brackets : (bytes : List ℕ) → Brackets bytes
brackets [] = record { rest = []; at = record { count = 0; spelled = refl; no_more = λ after e. absurd cc } }
brackets (byte ∷ bytes) = elim (cases_eq byte 91) [
  | inl same ↦ let more = brackets bytes in
      record { rest = more.rest; at = record { count = suc more.at.count; spelled = rw same (ap (λ (t : List ℕ). 91 ∷ t) more.at.spelled); no_more = more.at.no_more } }
  | inr other ↦ record { rest = byte ∷ bytes; at = record { count = 0; spelled = refl; no_more = λ after e. other cc } }
]

abbrev ArrayFront : List ℕ → Type 0
ArrayFront bytes = ((text : List ℕ) × (rest : List ℕ) × ArrayAt bytes text rest) ⊎ ((text rest : List ℕ) → ¬ ArrayAt bytes text rest)

array_of_brackets : (bytes : List ℕ) (b : Brackets bytes) → Decision ((1 ≤ b.at.count) × (b.at.count ≤ 255)) → ElementFront b.rest → ArrayFront bytes
array_of_brackets bytes b (inl fits) (inl f) = let array = array_of_element bytes b.rest f.0 b.at fits.0 fits.1 f.1 in inl (array.0, f.0, array.1)
array_of_brackets bytes b (inl fits) (inr never) = inr (λ text rest array. never rest (element_of_array bytes b.rest text rest b.at array).2)
array_of_brackets bytes b (inr bad) f = inr (λ text rest array. let h = element_of_array bytes b.rest text rest b.at array in bad (h.0, h.1))

array_front : (bytes : List ℕ) → ArrayFront bytes
array_front bytes = let b = brackets bytes in array_of_brackets bytes b (both (at_most 1 b.at.count) (at_most b.at.count 255)) (element_front b.rest)

array_left : (bytes text rest : List ℕ) → ArrayAt bytes text rest → Decision (IsArrayType bytes)
array_left bytes text [] at = inl (whole_array bytes text [] refl at)
array_left bytes text (byte ∷ rest) at = inr (λ array. absurd (let e = (one_array bytes text bytes (byte ∷ rest) [] at (at_whole bytes array)).1 in cc))

pub array_type : (bytes : List ℕ) → Decision (IsArrayType bytes)
array_type bytes = elim (array_front bytes) [
  | inl f ↦ array_left bytes f.0 f.1 f.2
  | inr never ↦ inr (λ array. never bytes [] (at_whole bytes array))
]

pub reference_name : (name : List ℕ) → Decision (IsReferenceName name)
reference_name name = either (class_name name) (array_type name)

-- the dimensions are the brackets
module _ (bytes : List ℕ) (least : ℕ) (b : Brackets bytes) where
  dimensions_from : (least ≤ b.at.count) × ElementAt b.rest [] → HasDimensions bytes least
  dimensions_from h = record {
    dimensions = b.at.count;
    element = h.1.element;
    is_element = h.1.is_element;
    enough = h.0;
    spelled = b.at.spelled ∙ ap (λ (t : List ℕ). replicate b.at.count 91 ++ t) (h.1.spelled ∙ append-nil (field_type_text h.1.element));
  }

  dimensions_to : HasDimensions bytes least → (least ≤ b.at.count) × ElementAt b.rest []
  dimensions_to h =
      let whole : replicate h.dimensions 91 ++ (field_type_text h.element ++ []) ≡ replicate b.at.count 91 ++ b.rest = ap (λ (t : List ℕ). replicate h.dimensions 91 ++ t) (append-nil (field_type_text h.element)) ∙ sym h.spelled ∙ b.at.spelled in
      let parts = one_count h.dimensions b.at.count _ b.rest (element_lacks h.element [] h.is_element) b.at.no_more whole in
      (omega (arith, h.enough, parts.0), record { element = h.element; is_element = h.is_element; spelled = sym parts.1 })

pub has_dimensions : (bytes : List ℕ) (least : ℕ) → Decision (HasDimensions bytes least)
has_dimensions bytes least =
    let b = brackets bytes in
    mapped (dimensions_from bytes least b) (dimensions_to bytes least b) (both (at_most least b.at.count) (whole_element b.rest))

-- ---- field types

pub type_form : (type : FieldType) → IsTypeName type → FieldForm type
type_form (Named name) h = named_form name h
type_form other h = inl tt

pub type_of_element : (type : FieldType) → IsElementType type → IsTypeName type
type_of_element (Named name) h = inl h
type_of_element other h = tt

pub one_type : (bytes : List ℕ) (one other : FieldType) (rest last : List ℕ) → TypeAt bytes one rest → TypeAt bytes other last → (one ≡ other) × (rest ≡ last)
one_type bytes one other rest last a b = one_form one other rest last (type_form one a.is_type) (type_form other b.is_type) (sym a.spelled ∙ b.spelled)

pub no_type : (byte : ℕ) (after bytes rest : List ℕ) (type : FieldType) → begins_type byte ≡ false → bytes ≡ byte ∷ after → ¬ TypeAt bytes type rest
no_type byte after bytes rest type not_first e at =
    let head = begins type (type_form type at.is_type) in
    let h : byte ∷ after ≡ head.first ∷ (head.more ++ rest) = sym e ∙ at.spelled ∙ ap (λ (t : List ℕ). t ++ rest) head.text in
    let same : byte ≡ head.first = cc in
    absurd (cc (not_first, head.begins))

pub type_shorter : (bytes rest : List ℕ) (type : FieldType) → TypeAt bytes type rest → length rest < length bytes
type_shorter bytes rest type at =
    let head = begins type (type_form type at.is_type) in
    let h : bytes ≡ head.first ∷ (head.more ++ rest) = at.spelled ∙ ap (λ (t : List ℕ). t ++ rest) head.text in
    omega (arith, ap length h, length-append head.more rest)

abbrev pub TypeFront : List ℕ → Type 0
TypeFront bytes = ((type : FieldType) × (rest : List ℕ) × TypeAt bytes type rest) ⊎ ((type : FieldType) (rest : List ℕ) → ¬ TypeAt bytes type rest)

pub no_type_front : (bytes : List ℕ) → ((rest : List ℕ) → ¬ ElementAt bytes rest) → ((text rest : List ℕ) → ¬ ArrayAt bytes text rest) → (type : FieldType) (rest : List ℕ) → ¬ TypeAt bytes type rest
no_type_front bytes no_element no_array type rest at = elim (type_form type at.is_type) [
  | inl a ↦ no_element rest (record { element = type; is_element = a; spelled = at.spelled })
  | inr a ↦ no_array a.0 rest (record { is_array = a.1; spelled = rw a.3 at at.spelled })
]

by_array : (bytes : List ℕ) → ((rest : List ℕ) → ¬ ElementAt bytes rest) → ArrayFront bytes → TypeFront bytes
by_array bytes never (inl a) = inl (Named a.0, a.1, record { is_type = inr a.2.is_array; spelled = rw (array_text a.0 a.2.is_array) a.2.spelled })
by_array bytes never (inr none) = inr (no_type_front bytes never none)

pub type_front : (bytes : List ℕ) → TypeFront bytes
type_front bytes = elim (element_front bytes) [
  | inl f ↦ inl (f.1.element, f.0, record { is_type = type_of_element f.1.element f.1.is_element; spelled = f.1.spelled })
  | inr never ↦ by_array bytes never (array_front bytes)
]

pub descriptor_at_whole : (bytes : List ℕ) (d : IsFieldDescriptor bytes) → TypeAt bytes d.type []
descriptor_at_whole bytes d = record { is_type = d.named; spelled = d.spelled ∙ sym (append-nil (field_type_text d.type)) }

type_left : (bytes rest : List ℕ) (type : FieldType) → TypeAt bytes type rest → Decision (IsFieldDescriptor bytes)
type_left bytes [] type at = inl (record { type = type; named = at.is_type; spelled = at.spelled ∙ append-nil (field_type_text type) })
type_left bytes (byte ∷ rest) type at = inr (λ d. absurd (let e = (one_type bytes type d.type (byte ∷ rest) [] at (descriptor_at_whole bytes d)).1 in cc))

pub field_descriptor : (bytes : List ℕ) → Decision (IsFieldDescriptor bytes)
field_descriptor bytes = elim (type_front bytes) [
  | inl f ↦ type_left bytes f.1 f.0 f.2
  | inr never ↦ inr (λ d. never d.type [] (descriptor_at_whole bytes d))
]

pub field_type : (type : FieldType) → Decision (IsFieldType type)
field_type (Named name) = both (text name) (reference_name name)
field_type other = inl tt
