-- The types that are read of descriptors name classes that are there, where the classes of these descriptors are.
use Rattle.std.proofs.Common.{◌≡◌, ℕ, List, inl, inr, Option, Some, None, IfSome, sym, ap, subst, ◌∙◌}
use Rattle.std.specs.List.{AllByRecursion}
use Rattle.class_model.specs.Code.{verification_type}
use Rattle.class_model.specs.Descriptors.{IsFieldType, SpellsDescriptor, SpellsFieldType, field_type_text, parameters_of, type_of}
use Rattle.class_model.specs.Laws.Descriptors.{array_text, class_text, named}
use Rattle.class_model.specs.ModifiedUtf8.{IsText}
use Rattle.class_model.specs.PoolChecks.{BytesSpell, IsFieldDescriptor, IsMethodDescriptor, IsTypeName}
use Rattle.class_model.specs.declared.descriptor.Descriptor.{Descriptor}
use Rattle.class_model.specs.declared.descriptor.FieldType.{FieldType}
use Rattle.class_model.specs.declared.descriptor.FieldType.TheVariants.{Byte, Char, Short, Bool as Boolean, Int, Long, Float, Double, Named}
use Rattle.class_tree.specs.Headers.{Headers, IsThere}
use Rattle.expanded_runs.proofs.Types.ClassTexts.{name_is_text}
use Rattle.expanded_runs.proofs.Types.NamedTypes.{AreNamedTypes, IsNamedType}
use Rattle.expanded_runs.proofs.Types.StatedNames.{value_named}
use Rattle.member_link.specs.Laws.ResultTexts.{result_spelled, type_of_spelled}
use Rattle.member_link.specs.References.{DescriptorNames, FieldTypeNames, TypeNames}
use Rattle.member_link.specs.Rows.MemberRows.{result_types}
use Rattle.member_link.specs.Signatures.{field_type, result_of}

-- ---- what is read of descriptors

-- what class_model says of descriptors: its `parameters_are_spelled` and `a_descriptor_of_a_text`
pub record DescriptorLaws : Type 0 where
  pub parameters : (text : List ℕ) (d : Descriptor) → SpellsDescriptor text d → parameters_of text ≡ d.params
  pub of_text : (text : List ℕ) (d : Descriptor) → IsText text → BytesSpell text d → SpellsDescriptor text d

-- the name in the text of a type that is a text
pub type_of_text : (type : FieldType) → IsTypeName type → IsText (field_type_text type) → IsFieldType type
type_of_text Byte is text = tt
type_of_text Char is text = tt
type_of_text Short is text = tt
type_of_text Boolean is text = tt
type_of_text Int is text = tt
type_of_text Long is text = tt
type_of_text Float is text = tt
type_of_text Double is text = tt
type_of_text (Named name) (inl class) text = (name_is_text name (subst IsText (class_text name class) text), inl class)
type_of_text (Named name) (inr array) text = (subst IsText (array_text name array) text, inr array)

-- the type of a field
pub field_named : (headers : Headers) (desc : List ℕ) → IsText desc → IsFieldDescriptor desc → FieldTypeNames (IsThere headers) desc
    → IsNamedType headers (field_type desc)
field_named headers desc text is there =
    let type = is.type in
    let spells : SpellsFieldType desc type =
    record { is_type = type_of_text type is.named (subst IsText is.spelled text); spelled = is.spelled } in
    let same : type_of desc ≡ type = ap type_of is.spelled ∙ type_of_spelled type is.named in
    subst (λ (t : FieldType). IsNamedType headers (verification_type t)) (sym same) (value_named headers type (there type spells))

-- the result of a method
pub result_named : DescriptorLaws → (headers : Headers) (desc : List ℕ) → IsText desc → IsMethodDescriptor desc
    → DescriptorNames (IsThere headers) desc
    → AreNamedTypes headers (result_types (result_of desc))
result_named laws headers desc text is there =
    let d = is.0 in
    let spells = laws.of_text desc d text is.1 in
    subst (λ (result : Option FieldType). AreNamedTypes headers (result_types result))
    (sym (result_spelled desc d (laws.parameters desc d spells) spells)) (by d.result (there d spells).1) where
      by : (result : Option FieldType) → IfSome result (TypeNames (IsThere headers)) → AreNamedTypes headers (result_types result)
      by None named = tt
      by (Some type) named = (value_named headers type named, tt)

-- the parameters of a method that spells its descriptor
pub parameters_named : DescriptorLaws → (headers : Headers) (desc : List ℕ) (d : Descriptor) → SpellsDescriptor desc d
    → DescriptorNames (IsThere headers) desc
    → AllByRecursion (TypeNames (IsThere headers)) (parameters_of desc)
parameters_named laws headers desc d spells there =
    subst (AllByRecursion (TypeNames (IsThere headers))) (sym (laws.parameters desc d spells)) (there d spells).0
