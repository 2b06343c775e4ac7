-- The descriptors of the fields of a candidate class are texts of field types.
use Rattle.member_link.specs.FieldConstructors.{constructor_descriptor, field_types}
use Rattle.std.proofs.Common.{◌≡◌, ◌≢◌, ◌+◌, ◌≤◌, not, cond, ℕ, Bool, true, false, List, [], ◌∷◌, ◌++◌, bytes_eq, codes, filter, length, map, replicate, reverse, Option, Some, None, IfSome, IsSome, refl, sym, ap, subst, ◌∙◌, arith}
use Rattle.std.proofs.lemmas.List.{append-nil, length-append}
use Rattle.std.proofs.lemmas.Option.{same_Some}
use Rattle.std.specs.List.{AllByRecursion, flat_map}
use Rattle.class_model.specs.Checks.{AllHold}
use Rattle.class_model.specs.ClassOf.{fields_checks}
use Rattle.class_model.specs.Descriptors.{SpellsDescriptor, SpellsFieldType, field_type_text, kind_of, type_of, units_of}
use Rattle.class_model.specs.Header.{field_member, header_of}
use Rattle.class_model.specs.Laws.Checks.{first_holds, others_hold}
use Rattle.class_model.specs.Laws.ClassFiles.{fields_place, parts_hold}
use Rattle.class_model.specs.Laws.Descriptors.{named as is_named}
use Rattle.class_model.specs.Laws.Texts.{plain_text}
use Rattle.class_model.specs.Members.{STATIC, Signature, field_checks, field_signature, has}
use Rattle.class_model.specs.ModifiedUtf8.{IsText}
use Rattle.class_model.specs.Pool.{Constants}
use Rattle.class_model.specs.PoolChecks.{BytesSpell, IsFieldDescriptor, text_or_empty, utf8_at}
use Rattle.class_model.specs.Spelling.{field_bytes}
use Rattle.class_model.specs.declared.class_file.ClassFile.{ClassFile}
use Rattle.class_model.specs.declared.class_file.Field.{Field}
use Rattle.class_model.specs.declared.descriptor.Descriptor.{Descriptor}
use Rattle.class_model.specs.declared.descriptor.FieldType.{FieldType}
use Rattle.class_model.specs.declared.descriptor.Kind.{Kind}
use Rattle.class_model.specs.declared.descriptor.Kind.TheVariants as kinds
use Rattle.class_model.specs.declared.header.Header.{Header}
use Rattle.class_model.specs.declared.header.Member.{Member}
use Rattle.class_tree.specs.Headers.{Classes, Headers, IsClassFile, Name, headers_of, named}
use Rattle.class_tree.specs.Hierarchy.{IsHierarchy}
use Rattle.class_tree.specs.Layouts.{instance_fields, own_fields, superclasses, chain}
use Rattle.class_tree.specs.Names.{object}
use Rattle.expanded_code.specs.Candidates.{HasRoom, IsCandidate}
use Rattle.expanded_code.specs.Laws.SuperChains.{chain_is, has_superclass}
use Rattle.inline_expand.proofs.AloneFlat.{all-append}
use Rattle.inline_expand.proofs.FolderNames.{of_folder}
use Rattle.inline_expand.specs.Inner.FieldTypes.{IsShortDescriptor}
use Rattle.field_constructors.specs.Constructors.{field_descs}
use Rattle.field_constructors.specs.Laws.JoinedTexts.{joined}
use Rattle.member_link.specs.Laws.ResultTexts.{type_of_spelled}

-- ---- the type that a text spells

one-unit : (kind : Kind) → units_of kind ≤ 2
one-unit kinds.Int = omega arith
one-unit kinds.Long = omega arith
one-unit kinds.Float = omega arith
one-unit kinds.Double = omega arith
one-unit kinds.Ref = omega arith

-- a method that takes a field's value and returns nothing
abbrev taking : List ℕ → List ℕ
taking text = (40 ∷ []) ++ text ++ (41 ∷ 86 ∷ [])

taking-text : (text : List ℕ) → IsText text → length text + 3 ≤ 65535 → IsText (taking text)
taking-text text is short =
    let open_ = (plain_text (40 ∷ []) refl).spelling in
    let close = (plain_text (41 ∷ 86 ∷ []) refl).spelling in
    record {
      spelling = joined ((40 ∷ []) ++ text) (41 ∷ 86 ∷ []) (joined (40 ∷ []) text open_ is.spelling) close;
      len = omega (arith, short, length-append ((40 ∷ []) ++ text) (41 ∷ 86 ∷ []), length-append (40 ∷ []) text);
    }

taking-spelled : (text : List ℕ) (is : IsFieldDescriptor text) → BytesSpell (taking text) (record { params = is.type ∷ []; result = None })
taking-spelled text is = record {
  params = (is.named, tt);
  units = omega (arith, one-unit (kind_of is.type));
  result = tt;
  spelled = ap taking is.spelled ∙ ap (λ (own : List ℕ). 40 ∷ (own ++ 41 ∷ 86 ∷ [])) (sym (append-nil (field_type_text is.type)));
}

pub short-spells : (text : List ℕ) → IsText text → (is : IsShortDescriptor text)
    → ((bytes : List ℕ) (descriptor : Descriptor) → IsText bytes → BytesSpell bytes descriptor → SpellsDescriptor bytes descriptor)
    → SpellsFieldType text is.is.type
short-spells text is_text is law =
    let spells = law (taking text) (record { params = is.is.type ∷ []; result = None }) (taking-text text is_text is.short) (taking-spelled text is.is) in
    record { is_type = spells.is_descriptor.params.0; spelled = is.is.spelled }

pub spelled-type : (text : List ℕ) (type : FieldType) → SpellsFieldType text type → type ≡ type_of text
spelled-type text type spells = sym (ap type_of spells.spelled ∙ type_of_spelled type (is_named type spells.is_type))

-- ---- fields of classes of the folder

abbrev IsDescribed : Member → Type 0
IsDescribed member = IsFieldDescriptor member.desc

described-text : (text : Option (List ℕ)) → IsSome text → IfSome text IsFieldDescriptor → IsFieldDescriptor (text_or_empty text)
described-text None there is = absurd cc
described-text (Some text) there is = is

fields-described : (pool : Constants) (flags : ℕ) (before : List Signature) (at : ℕ) (fields : List Field) → AllHold (fields_checks pool flags before at fields) → AllByRecursion IsDescribed (map (field_member pool) fields)
fields-described pool flags before at [] hold = tt
fields-described pool flags before at (field ∷ fields) hold =
    let own = field_checks pool flags before at field in
    let others = fields_checks pool flags (before ++ field_signature field ∷ []) (at + length (field_bytes field)) fields in
    let first = first_holds own others hold in (
      described-text (utf8_at pool field.desc) first.1.1.1.1.0 first.1.1.1.1.1.0,
      fields-described pool flags (before ++ field_signature field ∷ []) (at + length (field_bytes field)) fields (others_hold own others hold),
    )

file-described : (file : ClassFile) → IsClassFile file → AllByRecursion IsDescribed (header_of file).fields
file-described file is =
    let c = is.cut in
    subst (λ (f : ClassFile). AllByRecursion IsDescribed (header_of f).fields) (sym is.is)
    (fields-described c.pool c.flags [] (fields_place c + 2) c.fields (parts_hold c is.holds).fields)

named-described : (files : List ClassFile) → AllByRecursion IsClassFile files → (name : Name) (header : Header) → named name (map header_of files) ≡ Some header → AllByRecursion IsDescribed header.fields
named-described [] all name header is = absurd cc
named-described (file ∷ files) all name header is = by (bytes_eq name (header_of file).name) is (λ later. named-described files all.1 name header later) where
  by : (test : Bool) → cond test (Some (header_of file)) (named name (map header_of files)) ≡ Some header
      → (named name (map header_of files) ≡ Some header → AllByRecursion IsDescribed header.fields) → AllByRecursion IsDescribed header.fields
  by true here others = subst (λ (h : Header). AllByRecursion IsDescribed h.fields) (same_Some (header_of file) header here) (file-described file all.0)
  by false later others = others later

all-filtered : {A : Type 0} (P : A → Type 0) (test : A → Bool) (items : List A) → AllByRecursion P items → AllByRecursion P (filter test items)
all-filtered P test [] all = tt
all-filtered P test (item ∷ items) all = by (test item) (all-filtered P test items all.1) where
  by : (passes : Bool) → AllByRecursion P (filter test items) → AllByRecursion P (cond passes (item ∷ filter test items) (filter test items))
  by true others = (all.0, others)
  by false others = others

module _ (classes : Classes) (files : AllByRecursion IsClassFile classes.folder) where
  own-described : (name : Name) → AllByRecursion IsDescribed (own_fields (headers_of classes) name)
  own-described name = by (named name (headers_of classes).folder) refl where
    by : (found : Option Header) → named name (headers_of classes).folder ≡ found → AllByRecursion IsDescribed (own_fields (headers_of classes) name)
    by None is = rw is tt
    by (Some header) is = rw is (all-filtered IsDescribed (λ (field : Member). not (has field.flags STATIC)) header.fields (named-described classes.folder files name header is))

  all-described : (names : List Name) → AllByRecursion IsDescribed (flat_map (own_fields (headers_of classes)) names)
  all-described [] = tt
  all-described (name ∷ names) = all-append IsDescribed (own_fields (headers_of classes) name) (flat_map (own_fields (headers_of classes)) names) (own-described name) (all-described names)

-- ---- a field's descriptor is shorter than that of the field constructor

abbrev total : List Member → ℕ
total fields = length (flat_map (λ (field : Member). field.desc) fields)

all-short : (fields : List Member) (end : ℕ) → total fields + 3 ≤ end → end ≤ 65535 → AllByRecursion IsDescribed fields → AllByRecursion IsShortDescriptor (map (λ (field : Member). field.desc) fields)
all-short [] end fits few all = tt
all-short (field ∷ fields) end fits few all =
    let both = length-append field.desc (flat_map (λ (f : Member). f.desc) fields) in
    (record { is = all.0; short = omega (arith, both, fits, few) }, all-short fields end (omega (arith, both, fits)) few all.1)

constructor-long : (headers : Headers) (class : Name) (dimensions : ℕ) → total (instance_fields headers class) + 3 ≤ length (constructor_descriptor headers class dimensions)
constructor-long headers class dimensions =
    let fields = flat_map (λ (field : Member). field.desc) (instance_fields headers class) in
    let brackets : List ℕ = replicate dimensions 91 in
    omega (arith, length-append ((40 ∷ fields) ++ brackets) (codes "Z)V"), length-append (40 ∷ fields) brackets)

-- ---- candidates

module _ (classes : Classes) (hierarchy : IsHierarchy (headers_of classes)) (outside : (header : Header) → named object (headers_of classes).folder ≡ Some header → ⊥) where
  candidate-room : (class : Name) → IsCandidate classes class → HasRoom classes class
  candidate-room class is =
      let found = of_folder (headers_of classes) class is.header is.found in
      let differ : class ≢ object = λ same. outside is.header (subst (λ (n : Name). named n (headers_of classes).folder ≡ Some is.header) same is.found) in
      let above = has_superclass (headers_of classes) hierarchy class is.header found differ in
      let all : AllByRecursion (HasRoom classes) (class ∷ chain (headers_of classes) above.0) =
      subst (AllByRecursion (HasRoom classes)) (chain_is (headers_of classes) hierarchy class is.header found differ above.0 above.1) is.room in
      all.0

  pub fields-are-short : AllByRecursion IsClassFile classes.folder → (class : Name) → IsCandidate classes class → AllByRecursion IsShortDescriptor (field_descs (headers_of classes) class)
  fields-are-short files class is =
      let constructor = (candidate-room class is).constructor in
      let long = constructor-long (headers_of classes) class constructor.dimensions in
      all-short (instance_fields (headers_of classes) class) 65535 (omega (arith, long, constructor.fits)) (omega arith)
      (all-described classes files (reverse (superclasses (headers_of classes) class)))

types-same : (fields : List Member) → map type_of (map (λ (field : Member). field.desc) fields) ≡ map (λ (field : Member). type_of field.desc) fields
types-same [] = refl
types-same (field ∷ fields) = ap (λ (types : List FieldType). type_of field.desc ∷ types) (types-same fields)

pub field-types-are : (headers : Headers) (class : Name) → map type_of (field_descs headers class) ≡ field_types headers class
field-types-are headers class = types-same (instance_fields headers class)
