-- The text of a field constructor's descriptor spells the types of the fields and an array behind them, and no result. It is as Laws
-- ConstructorTexts of written_runs, which is no crate below this one.
use Rattle.std.proofs.Common.{◌≡◌, ◌+◌, map, IfSome, IsSome, inr, ◌≤◌, ◌++◌, not, ℕ, List, [], ◌∷◌, codes, length, replicate, reverse, slice_get, Option, Some, None, option_map, refl, sym, ap, subst, ◌∙◌, append-nil, arith}
use Rattle.std.specs.List.{AllByRecursion, flat_map}
use Rattle.std.proofs.lemmas.List.{append_assoc}
use Rattle.std.proofs.lemmas.List.Sums.{sum_by-append}
use Rattle.std.proofs.lemmas.Option.{none-some, same_Some, slice_get-map}
use Rattle.plan_flow.specs.Laws.OpenEdges.{all_still}
use Rattle.class_model.specs.Characters.{boolean_letter, left_bracket, left_parenthesis, right_parenthesis, void_letter}
use Rattle.class_model.specs.Descriptors.{IsArrayType, descriptor_text, field_type_text, kind_of, named_text, parameter_units, parameters_of, type_of, units_of}
use Rattle.class_model.specs.Header.{field_member, header_of}
use Rattle.class_model.specs.Laws.Descriptors.{array_text}
use Rattle.class_model.specs.Laws.Lists.{at_index}
use Rattle.class_model.specs.PoolChecks.{BytesSpell, IsFieldDescriptor, IsTypeName, text_or_empty, utf8_at}
use Rattle.class_model.specs.declared.class_file.ClassFile.{ClassFile}
use Rattle.class_model.specs.declared.descriptor.Descriptor.{Descriptor}
use Rattle.class_model.specs.declared.descriptor.FieldType.{FieldType}
use Rattle.class_model.specs.declared.descriptor.FieldType.TheVariants.{Bool, Named}
use Rattle.class_model.specs.declared.header.Header.{Header}
use Rattle.class_model.specs.declared.header.Member.{Member}
use Rattle.class_model.specs.Members.{STATIC, Signature, field_checks, field_signature, has}
use Rattle.class_tree.specs.Headers.{Classes, IsClassFile, Name, headers_of, named}
use Rattle.class_tree.specs.Layouts.{instance_fields, own_fields, superclasses}
use Rattle.class_tree.specs.Order.{place_of}
use Rattle.class_tree.specs.Trees.{IsTree}
use Rattle.class_tree.specs.declared.place.Place.TheVariants.{Folder}
use Rattle.member_link.specs.FieldConstructors.{constructor_descriptor, field_types}
use Rattle.member_link.specs.Laws.FolderClasses.{folder_index}
use Rattle.member_link.specs.Laws.ResultTexts.{no_result, type_of_spelled}
use Rattle.member_link.specs.Signatures.{result_of}
use Rattle.std.proofs.lemmas.Bool.{false≢true}
use Rattle.class_model.specs.Checks.{AllHold}
use Rattle.class_model.specs.ClassOf.{fields_checks}
use Rattle.class_model.specs.Laws.Checks.{first_holds, others_hold}
use Rattle.class_model.specs.Laws.ClassFiles.{parts_hold}
use Rattle.class_model.specs.Pool.{Constants}
use Rattle.class_model.specs.Spelling.{field_bytes}
use Rattle.class_model.specs.declared.class_file.Field.{Field}

-- what class_model says of method descriptors: its `parameters_of_bytes_are_spelled`
pub record ReadsParameters : Type 0 where
  pub parameters : (text : List ℕ) (descriptor : Descriptor)
      → BytesSpell text descriptor
      → parameters_of text ≡ descriptor.params

abbrev types_of : List Member → List FieldType
types_of fields = map (λ field. type_of field.desc) fields

-- ---- fields of a class file

abbrev DescribedIn : Constants → List Field → Type 0
DescribedIn pool [] = Unit {0}
DescribedIn pool (field ∷ fields) =
    (IsSome (utf8_at pool field.desc) × IfSome (utf8_at pool field.desc) IsFieldDescriptor) × DescribedIn pool fields

fields_hold : (pool : Constants) (flags : ℕ) (before : List Signature) (at : ℕ) (fields : List Field)
    → AllHold (fields_checks pool flags before at fields)
    → DescribedIn pool fields
fields_hold pool flags before at [] all = tt
fields_hold pool flags before at (field ∷ fields) all =
    let own = first_holds (field_checks pool flags before at field)
    (fields_checks pool flags (before ++ field_signature field ∷ []) (at + length (field_bytes field)) fields) all in (
      (own.1.1.1.1.0, own.1.1.1.1.1.0),
      fields_hold pool flags (before ++ field_signature field ∷ []) (at + length (field_bytes field)) fields
          (others_hold (field_checks pool flags before at field)
          (fields_checks pool flags (before ++ field_signature field ∷ []) (at + length (field_bytes field)) fields) all),
    )

described_fields : (pool : Constants) (fields : List Field) → DescribedIn pool fields
    → AllByRecursion (λ (member : Member). IsFieldDescriptor member.desc) (map (field_member pool) fields)
described_fields pool [] all = tt
described_fields pool (field ∷ fields) all =
    (by (utf8_at pool field.desc) all.0.0 all.0.1, described_fields pool fields all.1) where
      by : (text : Option (List ℕ)) → IsSome text → IfSome text IsFieldDescriptor → IsFieldDescriptor (text_or_empty text)
      by None some is = absurd (false≢true some)
      by (Some text) some is = is

fields_described : (file : ClassFile) → IsClassFile file
    → AllByRecursion (λ (member : Member). IsFieldDescriptor member.desc) (header_of file).fields
fields_described file is =
    subst (λ (c : ClassFile). AllByRecursion (λ (member : Member). IsFieldDescriptor member.desc) (header_of c).fields) (sym is.is)
    (described_fields is.cut.pool is.cut.fields
    (fields_hold is.cut.pool is.cut.flags [] _ is.cut.fields (parts_hold is.cut is.holds).fields))

-- ---- fields have descriptors

abbrev HasDescriptor : Member → Type 0
HasDescriptor field = IsFieldDescriptor field.desc

both_hold : (P : Member → Type 0) (ones others : List Member) → AllByRecursion P ones → AllByRecursion P others → AllByRecursion P (ones ++ others)
both_hold P [] others all more = more
both_hold P (one ∷ ones) others all more = (all.0, both_hold P ones others all.1 more)

own_described : (classes : Classes) → IsTree classes → (name : Name) → AllByRecursion HasDescriptor (own_fields (headers_of classes) name)
own_described classes tree name = by (named name (headers_of classes).folder) refl where
  by : (found : Option Header) → named name (headers_of classes).folder ≡ found → AllByRecursion HasDescriptor (own_fields (headers_of classes) name)
  by None none = rw (none) tt
  by (Some header) some =
      rw (some) (all_still HasDescriptor (λ (field : Member). not (has field.flags STATIC)) header.fields
      (of_file (slice_get classes.folder at.0) refl (sym (slice_get-map header_of classes.folder at.0) ∙ at.1))) where
        at : (index : ℕ) × (slice_get (headers_of classes).folder index ≡ Some header) × (place_of (headers_of classes) name ≡ Some (Folder index))
        at = folder_index (headers_of classes) name header some

        of_file : (file : Option ClassFile) → slice_get classes.folder at.0 ≡ file → option_map header_of file ≡ Some header
            → AllByRecursion HasDescriptor header.fields
        of_file None is same = absurd (none-some header same)
        of_file (Some file) is same =
            subst (λ (h : Header). AllByRecursion HasDescriptor h.fields) (same_Some (header_of file) header same)
            (fields_described file (at_index IsClassFile classes.folder at.0 file tree.folder is))

all_described : (classes : Classes) → IsTree classes → (names : List Name) → AllByRecursion HasDescriptor (flat_map (own_fields (headers_of classes)) names)
all_described classes tree [] = tt
all_described classes tree (name ∷ names) =
    both_hold HasDescriptor (own_fields (headers_of classes) name) (flat_map (own_fields (headers_of classes)) names) (own_described classes tree name)
    (all_described classes tree names)

-- ---- their types

types_named : (fields : List Member) → AllByRecursion HasDescriptor fields → AllByRecursion IsTypeName (types_of fields)
types_named [] all = tt
types_named (field ∷ fields) all = (
  subst IsTypeName (sym (ap type_of all.0.spelled ∙ type_of_spelled all.0.type all.0.named)) all.0.named,
  types_named fields all.1,
)

texts_are : (fields : List Member) → AllByRecursion HasDescriptor fields
    → flat_map field_type_text (types_of fields) ≡ flat_map (λ (field : Member). field.desc) fields
texts_are [] all = refl
texts_are (field ∷ fields) all =
    let here : field_type_text (type_of field.desc) ≡ field.desc =
    ap field_type_text (ap type_of all.0.spelled ∙ type_of_spelled all.0.type all.0.named) ∙ sym all.0.spelled in
    (λ i. here i ++ texts_are fields all.1 i)

-- ---- the descriptor

module _ (classes : Classes) (tree : IsTree classes) (reads : ReadsParameters) (name : Name) (dimensions : ℕ) where
  abbrev array : List ℕ
  array = replicate dimensions left_bracket ++ boolean_letter ∷ []

  abbrev fields : List Member
  fields = instance_fields (headers_of classes) name

  abbrev spelled_as : Descriptor
  spelled_as = record { params = types_of fields ++ Named array ∷ []; result = None }

  module _ (some : 1 ≤ dimensions) (few : dimensions ≤ 255) (narrow : parameter_units (field_types (headers_of classes) name) ≤ 64) where
    is_array : IsArrayType array
    is_array = record { dimensions = dimensions; element = Bool; some = some; few = few; is_element = tt; spelled = refl }

    described : AllByRecursion HasDescriptor fields
    described = all_described classes tree (reverse (superclasses (headers_of classes) name))

    texts_joined : (types : List FieldType) → flat_map field_type_text (types ++ Named array ∷ []) ≡ flat_map field_type_text types ++ array
    texts_joined [] = append-nil (named_text array) ∙ array_text array is_array
    texts_joined (type ∷ types) =
        ap (λ (text : List ℕ). field_type_text type ++ text) (texts_joined types)
        ∙ sym (append_assoc (field_type_text type) (flat_map field_type_text types) array)

    text_is : constructor_descriptor (headers_of classes) name dimensions ≡ descriptor_text spelled_as
    text_is = ap (λ (text : List ℕ). left_parenthesis ∷ text) (rest ∙ sym all) where
      -- both sides, from the left
      all : flat_map field_type_text (types_of fields ++ Named array ∷ []) ++ (right_parenthesis ∷ void_letter ∷ [])
          ≡ (flat_map (λ (field : Member). field.desc) fields ++ array) ++ (right_parenthesis ∷ void_letter ∷ [])
      all =
          ap (λ (text : List ℕ). text ++ (right_parenthesis ∷ void_letter ∷ []))
          (texts_joined (types_of fields) ∙ ap (λ (text : List ℕ). text ++ array) (texts_are fields described))

      rest : (flat_map (λ (field : Member). field.desc) fields ++ replicate dimensions left_bracket) ++ codes "Z)V"
          ≡ (flat_map (λ (field : Member). field.desc) fields ++ array) ++ (right_parenthesis ∷ void_letter ∷ [])
      rest =
          append_assoc (flat_map (λ (field : Member). field.desc) fields) (replicate dimensions left_bracket) (codes "Z)V")
          ∙ ap (λ (text : List ℕ). flat_map (λ (field : Member). field.desc) fields ++ text)
          (sym (append_assoc (replicate dimensions left_bracket) (boolean_letter ∷ []) (right_parenthesis ∷ void_letter ∷ [])))
          ∙ sym (append_assoc (flat_map (λ (field : Member). field.desc) fields) array (right_parenthesis ∷ void_letter ∷ []))

    all_named : (types : List FieldType) → AllByRecursion IsTypeName types → AllByRecursion IsTypeName (types ++ Named array ∷ [])
    all_named [] all = (inr is_array, tt)
    all_named (type ∷ types) all = (all.0, all_named types all.1)

    bytes : BytesSpell (constructor_descriptor (headers_of classes) name dimensions) spelled_as
    bytes = record {
      params = all_named (types_of fields) (types_named fields described);
      units =
          let both = sum_by-append (λ (type : FieldType). units_of (kind_of type)) (types_of fields) (Named array ∷ []) in
          omega (arith, both, narrow);
      result = tt;
      spelled = text_is;
    }

    pub takes : parameters_of (constructor_descriptor (headers_of classes) name dimensions) ≡ types_of fields ++ Named array ∷ []
    takes = reads.parameters (constructor_descriptor (headers_of classes) name dimensions) spelled_as bytes

    pub gives_none : result_of (constructor_descriptor (headers_of classes) name dimensions) ≡ None
    gives_none = no_result (constructor_descriptor (headers_of classes) name dimensions) spelled_as takes text_is refl
