-- What a field constructor is as a member of its class, and the classes that its descriptor names.
use Rattle.std.proofs.Common.{◌≡◌, ◌++◌, ◌+◌, ◌∙◌, ℕ, List, [], ◌∷◌, codes, map, Option, Some, None, IfSome, sym, ap, subst}
use Rattle.std.specs.List.{AllByRecursion, flat_map}
use Rattle.class_model.specs.Descriptors.{IsFieldType, SpellsDescriptor, field_type_text, parameters_of, type_of}
use Rattle.class_model.specs.Header.{method_member}
use Rattle.class_model.specs.Members.{PUBLIC}
use Rattle.class_model.specs.Names.{init}
use Rattle.class_model.specs.Pool.{Constants}
use Rattle.class_model.specs.PoolChecks.{IsFieldDescriptor, text_or_empty, utf8_at}
use Rattle.class_model.specs.declared.class_file.Method.{Method}
use Rattle.class_model.specs.declared.descriptor.Descriptor.{Descriptor}
use Rattle.class_model.specs.declared.descriptor.FieldType.{FieldType}
use Rattle.class_model.specs.declared.descriptor.FieldType.TheVariants.{Byte, Char, Short, Bool, Int, Long, Float, Double, Named}
use Rattle.class_model.specs.declared.header.Member.{Member}
use Rattle.class_tree.specs.Headers.{IsThere, Headers, Name}
use Rattle.class_tree.specs.Layouts.{instance_fields}
use Rattle.making_code.specs.Constants.{Need, grow, needs_text, text_index}
use Rattle.making_code.specs.ConstructorCode.{IsConstructorMethod, SYNTHETIC}
use Rattle.making_code.specs.FieldConstructor.{constructor_items, constructor_method_needs, item_needs}
use Rattle.making_code.specs.Laws.AddedConstants.{Compares, grow_split}
use Rattle.making_code.specs.Laws.GrownPools.{begins_through, grow_begins}
use Rattle.member_link.specs.Laws.ResultTexts.{result_spelled, type_of_spelled}
use Rattle.member_link.specs.References.{DescriptorNames, FieldTypeNames, TypeNames, element_class}
use Rattle.row_frames.specs.Laws.MorePools.{text_more}
use Rattle.written_files.proofs.FieldConstructors.Constants.{text_had}
use Rattle.written_files.specs.FieldConstructors.{IsDescribed, constructor_member}

-- ---- its texts

-- the items' constants are added behind its texts
pub record HasTexts (headers : Headers) (constructor : Name → List ℕ) (class : Name) (pool : Constants) : Type 0 where
  pub items_from : Constants
  pub items_grow : grow 65535 items_from (flat_map (item_needs constructor) (constructor_items headers class)) ≡ Some pool
  pub name : utf8_at pool (text_index pool init) ≡ Some init
  pub desc : utf8_at pool (text_index pool (constructor class)) ≡ Some (constructor class)
  pub code : utf8_at pool (text_index pool (codes "Code")) ≡ Some (codes "Code")

pub texts_had : Compares → (headers : Headers) (constructor : Name → List ℕ) (class : Name) (before pool : Constants)
    → grow 65535 before (constructor_method_needs headers constructor class) ≡ Some pool
    → HasTexts headers constructor class pool
texts_had same headers constructor class before pool grows =
    let texts : List Need = needs_text init ++ needs_text (constructor class) in
    let code_text : List Need = needs_text (codes "Code") in
    let items : List Need = flat_map (item_needs constructor) (constructor_items headers class) in
    let last = grow_split 65535 before (texts ++ code_text) items pool grows in
    let second = grow_split 65535 before texts code_text last.0 last.1 in
    let first = grow_split 65535 before (needs_text init) (needs_text (constructor class)) second.0 second.1 in
    let from_code = grow_begins 65535 items last.0 pool last.2 in
    let from_desc = begins_through second.0 last.0 pool (grow_begins 65535 code_text second.0 last.0 second.2) from_code in
    let from_name = begins_through first.0 second.0 pool (grow_begins 65535 (needs_text (constructor class)) first.0 second.0 first.2) from_desc in
    record {
      items_from = last.0;
      items_grow = last.2;
      name = text_had same 65535 before first.0 pool init first.1 from_name;
      desc = text_had same 65535 first.0 second.0 pool (constructor class) first.2 from_desc;
      code = text_had same 65535 second.0 last.0 pool (codes "Code") second.2 from_code;
    }

pub constructor_is_member : Compares → (headers : Headers) (constructor : Name → List ℕ) (class : Name) (before pool more : Constants)
    (method : Method)
    → grow 65535 before (constructor_method_needs headers constructor class) ≡ Some pool
    → IsConstructorMethod headers constructor class pool method
    → method_member (pool ++ more) method ≡ constructor_member constructor class
constructor_is_member same headers constructor class before pool more method grows is =
    let texts = texts_had same headers constructor class before pool grows in
    let name : utf8_at (pool ++ more) method.name ≡ Some init =
    ap (utf8_at (pool ++ more)) is.name ∙ text_more pool more (text_index pool init) init texts.name in
    let desc : utf8_at (pool ++ more) method.desc ≡ Some (constructor class) =
    ap (utf8_at (pool ++ more)) is.desc ∙ text_more pool more (text_index pool (constructor class)) (constructor class) texts.desc in
    let by : ℕ → Option (List ℕ) → Option (List ℕ) → Member =
    λ flags one other. record { flags = flags; name = text_or_empty one; desc = text_or_empty other } in
    ap (λ (flags : ℕ). by flags (utf8_at (pool ++ more) method.name) (utf8_at (pool ++ more) method.desc)) is.flags
    ∙ ap (λ (one : Option (List ℕ)). by (PUBLIC + SYNTHETIC) one (utf8_at (pool ++ more) method.desc)) name
    ∙ ap (by (PUBLIC + SYNTHETIC) (Some init)) desc

-- ---- its descriptor

-- a type that names no class asks nothing
none_asked : (among : Headers) (type : FieldType) → TypeNames (λ name. ⊥) type → TypeNames (IsThere among) type
none_asked among (Named name) none = by (element_class name) none where
  by : (found : Option Name) → IfSome found (λ name. ⊥) → IfSome found (IsThere among)
  by None none = tt
  by (Some class) none = absurd none
none_asked among Byte none = tt
none_asked among Char none = tt
none_asked among Short none = tt
none_asked among Bool none = tt
none_asked among Int none = tt
none_asked among Long none = tt
none_asked among Float none = tt
none_asked among Double none = tt

module _ (among : Headers) (last : FieldType) (none : TypeNames (λ name. ⊥) last) where
  params_named : (fields : List Member) → AllByRecursion (λ (field : Member). IsFieldDescriptor field.desc) fields
      → AllByRecursion (λ (field : Member). FieldTypeNames (IsThere among) field.desc) fields
      → AllByRecursion IsFieldType (map (λ (field : Member). type_of field.desc) fields ++ last ∷ [])
      → AllByRecursion (TypeNames (IsThere among)) (map (λ (field : Member). type_of field.desc) fields ++ last ∷ [])
  params_named [] described there types = (none_asked among last none, tt)
  params_named (field ∷ fields) described there types =
      let one = described.0 in
      let spelled : field.desc ≡ field_type_text (type_of field.desc) =
      one.spelled ∙ ap field_type_text (sym (ap type_of one.spelled ∙ type_of_spelled one.type one.named)) in (
        there.0 (type_of field.desc) (record { is_type = types.0; spelled = spelled }),
        params_named fields described.1 there.1 types.1,
      )

-- what class_model says of descriptors
abbrev pub ReadsParameters : Type 0
ReadsParameters = (text : List ℕ) (descriptor : Descriptor) → SpellsDescriptor text descriptor → parameters_of text ≡ descriptor.params

pub descriptor_named : ReadsParameters → (headers among : Headers) (constructor : Name → List ℕ) (class : Name)
    → IsDescribed headers constructor class
    → AllByRecursion (λ (field : Member). IsFieldDescriptor field.desc) (instance_fields headers class)
    → AllByRecursion (λ (field : Member). FieldTypeNames (IsThere among) field.desc) (instance_fields headers class)
    → DescriptorNames (IsThere among) (constructor class)
descriptor_named reads headers among constructor class is described there = λ descriptor spells.
    let read = reads (constructor class) descriptor spells in
    let same : map (λ (field : Member). type_of field.desc) (instance_fields headers class) ++ is.last ∷ [] ≡ descriptor.params =
    sym is.parameters ∙ read in
    let result : descriptor.result ≡ None = sym (result_spelled (constructor class) descriptor read spells) ∙ is.no_result in (
      subst (AllByRecursion (TypeNames (IsThere among))) same
          (params_named among is.last is.names_none (instance_fields headers class) described there
          (subst (AllByRecursion IsFieldType) (sym same) spells.is_descriptor.params)),
      subst (λ (o : Option FieldType). IfSome o (TypeNames (IsThere among))) (sym result) tt,
    )
