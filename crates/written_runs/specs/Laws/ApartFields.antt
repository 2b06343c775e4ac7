-- The fields of a class file: no two are of one name and descriptor, and each descriptor is that of a field.
use Rattle.std.proofs.Common.{◌≡◌, ◌+◌, ◌++◌, ℕ, zero, suc, Bool, true, false, List, [], ◌∷◌, bytes_eq, filter, length, map, slice_get, Option, Some, None, IfSome, IsSome, refl, sym, ap, subst, ◌∙◌}
use Rattle.std.specs.List.{AllByRecursion, list_any}
use Rattle.std.proofs.lemmas.Bool.{and_from, and_parts, false≢true}
use Rattle.std.proofs.lemmas.Option.{none-some, same_Some}
use Rattle.std.proofs.lemmas.Slice.Eq.{bytes_eq-Decides}
use Rattle.plan_flow.specs.Laws.OpenEdges.{all_still}
use Rattle.class_model.specs.Checks.{AllHold}
use Rattle.class_model.specs.ClassOf.{fields_checks}
use Rattle.class_model.specs.Header.{field_member, header_of}
use Rattle.class_model.specs.Laws.Checks.{first_holds, others_hold}
use Rattle.class_model.specs.Laws.ClassFiles.{parts_hold}
use Rattle.class_model.specs.Laws.Lists.{at_index}
use Rattle.class_model.specs.Members.{Signature, field_checks, field_signature, same_signature, same_text, stands_before}
use Rattle.class_model.specs.Pool.{Constants}
use Rattle.class_model.specs.PoolChecks.{IsFieldDescriptor, text_or_empty, utf8_at}
use Rattle.class_model.specs.Spelling.{field_bytes}
use Rattle.class_model.specs.declared.class_file.ClassFile.{ClassFile}
use Rattle.class_model.specs.declared.class_file.Field.{Field}
use Rattle.class_model.specs.declared.header.Member.{Member}
use Rattle.class_tree.specs.Headers.{IsClassFile}
use Rattle.class_tree.specs.Names.{is_member}
use Rattle.member_link.specs.DeclaredMembers.{declared}
use Rattle.same_runs.specs.Laws.Objects.{get_new, get_old}

-- ---- members

-- two members are not of one name and descriptor
abbrev pub Differs : Member → Member → Type 0
Differs one other = one.name ≡ other.name → one.desc ≡ other.desc → ⊥

abbrev pub AreDistinct : List Member → Type 0
AreDistinct [] = Unit {0}
AreDistinct (one ∷ others) = AllByRecursion (Differs one) others × AreDistinct others

pub distinct_still : (test : Member → Bool) (members : List Member) → AreDistinct members → AreDistinct (filter test members)
distinct_still test [] all = tt
distinct_still test (one ∷ members) all = by (test one) refl (distinct_still test members all.1) where
  by : (b : Bool) → test one ≡ b → AreDistinct (filter test members) → AreDistinct (filter test (one ∷ members))
  by true e rest = rw (e) (all_still (Differs one) test members all.0, rest)
  by false e rest = rw (e) rest

-- one of them is the first of its name and descriptor
pub declared_itself : (members : List Member) (number : ℕ) (member : Member) → AreDistinct members → slice_get members number ≡ Some member
    → declared member.name member.desc members ≡ Some member
declared_itself [] number member all is = absurd (none-some member is)
declared_itself (first ∷ members) zero member all is = rw (here) is where
  here : is_member member.name member.desc first ≡ true
  here =
      and_from _ _ ((bytes_eq-Decides member.name first.name).1 (ap (λ (m : Member). m.name) (sym (same_Some first member is))))
      ((bytes_eq-Decides member.desc first.desc).1 (ap (λ (m : Member). m.desc) (sym (same_Some first member is))))
declared_itself (first ∷ members) (suc number) member all is =
    by (is_member member.name member.desc first) refl (declared_itself members number member all.1 is) where
      by : (b : Bool) → is_member member.name member.desc first ≡ b → declared member.name member.desc members ≡ Some member
          → declared member.name member.desc (first ∷ members) ≡ Some member
      by true e rest =
          let parts = and_parts (bytes_eq member.name first.name) (bytes_eq member.desc first.desc) e in
          absurd (at_index (Differs first) members number member all.0 is (sym ((bytes_eq-Decides member.name first.name).0 parts.0))
          (sym ((bytes_eq-Decides member.desc first.desc).0 parts.1)))
      by false e rest = rw (e) rest

-- ---- fields of a class file

-- what the checks say of a field behind others
record FieldHolds (pool : Constants) (before : List Signature) (field : Field) : Type 0 where
  pub other : stands_before pool before (field_signature field) ≡ false
  pub has_name : IsSome (utf8_at pool field.name)
  pub has_desc : IsSome (utf8_at pool field.desc)
  pub described : IfSome (utf8_at pool field.desc) IsFieldDescriptor

abbrev FieldsHold : Constants → List Signature → List Field → Type 0
FieldsHold pool before [] = Unit {0}
FieldsHold pool before (field ∷ fields) =
    FieldHolds pool before field × FieldsHold pool (before ++ field_signature field ∷ []) fields

fields_hold : (pool : Constants) (flags : ℕ) (before : List Signature) (at : ℕ) (fields : List Field)
    → AllHold (fields_checks pool flags before at fields)
    → FieldsHold pool before fields
fields_hold pool flags before at [] all = tt
fields_hold pool flags before at (field ∷ fields) all =
    let own = first_holds (field_checks pool flags before at field)
    (fields_checks pool flags (before ++ field_signature field ∷ []) (at + length (field_bytes field)) fields) all in (
      record { other = own.1.0; has_name = own.1.1.0; has_desc = own.1.1.1.1.0; described = own.1.1.1.1.1.0 },
      fields_hold pool flags (before ++ field_signature field ∷ []) (at + length (field_bytes field)) fields
          (others_hold (field_checks pool flags before at field)
          (fields_checks pool flags (before ++ field_signature field ∷ []) (at + length (field_bytes field)) fields) all),
    )

none_at : {A : Type 0} (test : A → Bool) (xs : List A) (number : ℕ) (x : A) → list_any test xs ≡ false → slice_get xs number ≡ Some x
    → test x ≡ false
none_at test [] number x none is = absurd (none-some x is)
none_at test (first ∷ xs) zero x none is =
    by (test first) refl where
      by : (b : Bool) → test first ≡ b → test x ≡ false
      by true e = absurd (false≢true (sym none ∙ rw (e) refl))
      by false e = ap test (sym (same_Some first x is)) ∙ e
none_at test (first ∷ xs) (suc number) x none is = by (test first) refl (none_at test xs number x) where
  by : (b : Bool) → test first ≡ b → (list_any test xs ≡ false → slice_get xs number ≡ Some x → test x ≡ false) → test x ≡ false
  by true e rest = absurd (false≢true (sym none ∙ rw (e) refl))
  by false e rest = rest (sym (rw (e) refl) ∙ none) is

-- those behind a field are others
others_differ : (pool : Constants) (before : List Signature) (fields : List Field) (number : ℕ) (one : Signature)
    → FieldsHold pool before fields
    → slice_get before number ≡ Some one
    → AllByRecursion (λ (field : Field). same_signature pool (field_signature field) one ≡ false) fields
others_differ pool before [] number one all is = tt
others_differ pool before (field ∷ fields) number one all is = (
  none_at (same_signature pool (field_signature field)) before number one all.0.other is,
  others_differ pool (before ++ field_signature field ∷ []) fields number one all.1 (get_old before (field_signature field) number one is),
)

-- texts that are there are equal
texts_same : (one other : Option (List ℕ)) → IsSome one → IsSome other → text_or_empty one ≡ text_or_empty other → same_text other one ≡ true
texts_same None other some also same = absurd (false≢true some)
texts_same (Some one) None some also same = absurd (false≢true also)
texts_same (Some one) (Some other) some also same = (bytes_eq-Decides other one).1 (sym same)

-- what holds of fields holds of each
abbrev HasTexts : Constants → Field → Type 0
HasTexts pool field = IsSome (utf8_at pool field.name) × IsSome (utf8_at pool field.desc)

have_texts : (pool : Constants) (before : List Signature) (fields : List Field) → FieldsHold pool before fields
    → AllByRecursion (HasTexts pool) fields
have_texts pool before [] all = tt
have_texts pool before (field ∷ fields) all =
    ((all.0.has_name, all.0.has_desc), have_texts pool (before ++ field_signature field ∷ []) fields all.1)

members_differ : (pool : Constants) (one : Field) (fields : List Field) → HasTexts pool one → AllByRecursion (HasTexts pool) fields
    → AllByRecursion (λ (field : Field). same_signature pool (field_signature field) (field_signature one) ≡ false) fields
    → AllByRecursion (Differs (field_member pool one)) (map (field_member pool) fields)
members_differ pool one [] own all differ = tt
members_differ pool one (field ∷ fields) own all differ = (
  λ names descs.
      false≢true (sym differ.0 ∙ and_from _ _ (texts_same (utf8_at pool one.name) (utf8_at pool field.name) own.0 all.0.0 names)
      (texts_same (utf8_at pool one.desc) (utf8_at pool field.desc) own.1 all.0.1 descs)),
  members_differ pool one fields own all.1 differ.1,
)

distinct_fields : (pool : Constants) (before : List Signature) (fields : List Field) → FieldsHold pool before fields
    → AreDistinct (map (field_member pool) fields)
distinct_fields pool before [] all = tt
distinct_fields pool before (field ∷ fields) all = (
  members_differ pool field fields (all.0.has_name, all.0.has_desc)
      (have_texts pool (before ++ field_signature field ∷ []) fields all.1)
      (others_differ pool (before ++ field_signature field ∷ []) fields (length before) (field_signature field) all.1
      (get_new before (field_signature field))),
  distinct_fields pool (before ++ field_signature field ∷ []) fields all.1,
)

-- the fields that a class file declares
pub fields_distinct : (file : ClassFile) → IsClassFile file → AreDistinct (header_of file).fields
fields_distinct file is =
    subst (λ (c : ClassFile). AreDistinct (header_of c).fields) (sym is.is)
    (distinct_fields is.cut.pool [] is.cut.fields
    (fields_hold is.cut.pool is.cut.flags [] _ is.cut.fields (parts_hold is.cut is.holds).fields))

-- each descriptor is one
described_fields : (pool : Constants) (before : List Signature) (fields : List Field) → FieldsHold pool before fields
    → AllByRecursion (λ (member : Member). IsFieldDescriptor member.desc) (map (field_member pool) fields)
described_fields pool before [] all = tt
described_fields pool before (field ∷ fields) all =
    (by (utf8_at pool field.desc) all.0.has_desc all.0.described, described_fields pool (before ++ field_signature field ∷ []) fields all.1) where
      by : (text : Option (List ℕ)) → IsSome text → IfSome text IsFieldDescriptor → IsFieldDescriptor (text_or_empty text)
      by None some is = absurd (false≢true some)
      by (Some text) some is = is

pub fields_described : (file : ClassFile) → IsClassFile file
    → AllByRecursion (λ (member : Member). IsFieldDescriptor member.desc) (header_of file).fields
fields_described file is =
    subst (λ (c : ClassFile). AllByRecursion (λ (member : Member). IsFieldDescriptor member.desc) (header_of c).fields) (sym is.is)
    (described_fields is.cut.pool [] is.cut.fields
    (fields_hold is.cut.pool is.cut.flags [] _ is.cut.fields (parts_hold is.cut is.holds).fields))
