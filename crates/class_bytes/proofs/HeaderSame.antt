-- What a header is asked, and what is kept, are those of the parts that a reader of headers holds.
use Rattle.std.proofs.Common.{◌≡◌, ℕ, ◌+◌, ◌*◌, ◌≤◌, List, [], ◌∷◌, ◌++◌, length, map, refl, sym, ap, ◌∙◌, append_assoc, length-append, arith}
use Rattle.std.specs.Prelude.{IfSome, IsSome}
use Rattle.std.specs.List.{flat_map}
use Rattle.std.proofs.lemmas.Simd.{map-map}
use Rattle.class_model.specs.Checks.{Check, check, Fault}
use Rattle.class_model.specs.Header.{texts_checks, header_checks, header_of}
use Rattle.class_model.specs.Members.{class_name_checks, super_checks, interfaces_checks}
use Rattle.class_model.specs.Methods.{IsDescriptorOf}
use Rattle.class_model.specs.Names.{IsMethodName, IsFieldName}
use Rattle.class_model.specs.Pool.{Constants}
use Rattle.class_model.specs.PoolChecks.{utf8_at, IsFieldDescriptor, InitIsVoid}
use Rattle.class_model.specs.Spelling.{entry_bytes, field_bytes, method_bytes}
use Rattle.class_model.specs.declared.class_file.ClassFile.{ClassFile}
use Rattle.class_model.specs.declared.class_file.Field.{Field}
use Rattle.class_model.specs.declared.class_file.Method.{Method}
use Rattle.class_model.specs.declared.fault.FileRule.TheVariants as rules
use Rattle.class_bytes.specs.Inner.HeaderParts.{field_head, method_head, cut_header, field_head_checks, method_head_checks, members_checks, members_len, header_len, cut_header_checks, member_in, header_in}
use Rattle.class_bytes.specs.Inner.Parts.{attrs_len, fields_len, methods_len, behind_len}
use Rattle.class_bytes.specs.declared.header_checks.MemberKind.TheVariants as kinds
use Rattle.class_bytes.specs.declared.header_cutting.CutHeader.{CutHeader}

-- ---- places

field_len : (field : Field) → length (field_bytes field) ≡ 8 + attrs_len field.attrs
field_len field = omega arith

method_len : (method : Method) → length (method_bytes method) ≡ 8 + attrs_len method.attrs
method_len method = omega arith

fields_long : (fields : List Field) → fields_len fields ≡ members_len (map field_head fields)
fields_long [] = refl
fields_long (field ∷ fields) = omega (arith, length-append (field_bytes field) (flat_map field_bytes fields), field_len field, fields_long fields)

methods_long : (methods : List Method) → methods_len methods ≡ members_len (map method_head methods)
methods_long [] = refl
methods_long (method ∷ methods) = omega (arith, length-append (method_bytes method) (flat_map method_bytes methods), method_len method, methods_long methods)

-- they are not beyond the attributes
pub header_within : (c : ClassFile) → header_len (cut_header c) ≤ behind_len c
header_within c = omega (arith, fields_long c.fields, methods_long c.methods)

-- ---- checks

-- those of the members of a class file
abbrev pub all_fields : Constants → ℕ → List Field → List (Check Fault)
all_fields pool at [] = []
all_fields pool at (field ∷ fields) =
    check (at + 2) rules.Index (IsSome (utf8_at pool field.name))
    ∷ check (at + 2) rules.Name (IfSome (utf8_at pool field.name) IsFieldName)
    ∷ check (at + 4) rules.Index (IsSome (utf8_at pool field.desc))
    ∷ check (at + 4) rules.Descriptor (IfSome (utf8_at pool field.desc) IsFieldDescriptor)
    ∷ all_fields pool (at + length (field_bytes field)) fields

abbrev pub all_methods : Constants → ℕ → List Method → List (Check Fault)
all_methods pool at [] = []
all_methods pool at (method ∷ methods) =
    check (at + 2) rules.Index (IsSome (utf8_at pool method.name))
    ∷ check (at + 2) rules.Name (IfSome (utf8_at pool method.name) (λ name. IsMethodName name × InitIsVoid name (utf8_at pool method.desc)))
    ∷ check (at + 4) rules.Index (IsSome (utf8_at pool method.desc))
    ∷ check (at + 4) rules.Descriptor (IfSome (utf8_at pool method.desc) (IsDescriptorOf method.flags))
    ∷ all_methods pool (at + length (method_bytes method)) methods

same_fields : (pool : Constants) (at : ℕ) (fields : List Field) → all_fields pool at fields ≡ members_checks kinds.Field pool at (map field_head fields)
same_fields pool at [] = refl
same_fields pool at (field ∷ fields) =
    ap (λ (others : List (Check Fault)). field_head_checks pool at (field_head field) ++ others)
    (ap (λ (n : ℕ). all_fields pool (at + n) fields) (field_len field) ∙ same_fields pool (at + (8 + attrs_len field.attrs)) fields)

same_methods : (pool : Constants) (at : ℕ) (methods : List Method) → all_methods pool at methods ≡ members_checks kinds.Method pool at (map method_head methods)
same_methods pool at [] = refl
same_methods pool at (method ∷ methods) =
    ap (λ (others : List (Check Fault)). method_head_checks pool at (method_head method) ++ others)
    (ap (λ (n : ℕ). all_methods pool (at + n) methods) (method_len method) ∙ same_methods pool (at + (8 + attrs_len method.attrs)) methods)

grouped : (t n s i f m : List (Check Fault)) → t ++ n ++ s ++ i ++ f ++ m ≡ t ++ (n ++ (s ++ (i ++ (f ++ m))))
grouped t n s i f m = simp append_assoc

abbrev pub flags_at : Constants → ℕ
flags_at pool = 10 + length (flat_map entry_bytes pool)

same_checks : (c : ClassFile) → header_checks c ≡ texts_checks 10 c.pool ++ cut_header_checks c.pool (flags_at c.pool) (cut_header c)
same_checks c =
    let pool = c.pool in
    let fields = flags_at c.pool + 8 + 2 * length c.interfaces in
    let texts = texts_checks 10 pool in
    let names = class_name_checks pool (flags_at c.pool + 2) c.this_class in
    let supers = super_checks pool (flags_at c.pool + 4) c.super_class in
    let interfaces = interfaces_checks pool (flags_at c.pool + 8) c.interfaces in
    let methods : ℕ → ℕ = λ n. fields + 2 + n + 2 in
    grouped texts names supers interfaces (all_fields pool (fields + 2) c.fields) (all_methods pool (methods (fields_len c.fields)) c.methods)
    ∙ ap (λ (f : List (Check Fault)). texts ++ (names ++ (supers ++ (interfaces ++ (f ++ all_methods pool (methods (fields_len c.fields)) c.methods))))) (same_fields pool (fields + 2) c.fields)
    ∙ ap (λ (m : List (Check Fault)). texts ++ (names ++ (supers ++ (interfaces ++ (members_checks kinds.Field pool (fields + 2) (map field_head c.fields) ++ m)))))
    (ap (λ (n : ℕ). all_methods pool (methods n) c.methods) (fields_long c.fields) ∙ same_methods pool (methods (members_len (map field_head c.fields))) c.methods)

-- ---- what is kept

same_header : (c : ClassFile) → header_of c ≡ header_in c.pool (cut_header c)
same_header c = rw (map-map (member_in c.pool) field_head c.fields, map-map (member_in c.pool) method_head c.methods) refl

-- ---- a class file of a pool and of a header that was cut

pub asked_of_parts : (pool : Constants) (head : CutHeader) (c : ClassFile) → c.pool ≡ pool → head ≡ cut_header c → texts_checks 10 pool ++ cut_header_checks pool (flags_at pool) head ≡ header_checks c
asked_of_parts pool head c pool_is head_is = rw (head_is, ← pool_is) (sym (same_checks c))

pub kept_of_parts : (pool : Constants) (head : CutHeader) (c : ClassFile) → c.pool ≡ pool → head ≡ cut_header c → header_in pool head ≡ header_of c
kept_of_parts pool head c pool_is head_is = rw (head_is, ← pool_is) (sym (same_header c))
