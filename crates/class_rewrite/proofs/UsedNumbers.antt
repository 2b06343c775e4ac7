-- A class of the folder has one field of a name and descriptor, by its number.
use Rattle.std.proofs.Common.{◌≡◌, ◌++◌, ◌+◌, ◌&&◌, ℕ, zero, suc, Bool, true, false, List, [], ◌∷◌, length, map, slice_get, Option, Some, None, IsSome, refl, sym, ap, subst, ◌∙◌}
use Rattle.std.specs.List.{list_any}
use Rattle.std.proofs.lemmas.Bool.{false≢true, or_left, or_right}
use Rattle.std.proofs.lemmas.Option.{none-some, same_Some}
use Rattle.std.proofs.lemmas.Slice.Eq.{bytes_eq-Decides}
use Rattle.class_model.specs.Checks.{AllHold, Check, Fault}
use Rattle.class_model.specs.ClassOf.{fields_checks}
use Rattle.class_model.specs.Header.{field_member, header_of}
use Rattle.class_model.specs.Laws.Checks.{first_holds, others_hold}
use Rattle.class_model.specs.Laws.ClassFiles.{fields_place, parts_hold}
use Rattle.class_model.specs.Laws.Lists.{at_index}
use Rattle.class_model.specs.Members.{Signature, field_checks, field_signature, same_signature, same_text}
use Rattle.class_model.specs.Pool.{Constants}
use Rattle.class_model.specs.PoolChecks.{text_or_empty, utf8_at}
use Rattle.class_model.specs.Spelling.{field_bytes}
use Rattle.class_model.specs.declared.class_file.ClassFile.{ClassFile}
use Rattle.class_model.specs.declared.class_file.Field.{Field}
use Rattle.class_model.specs.declared.header.Header.{Header}
use Rattle.class_model.specs.declared.header.Member.{Member}
use Rattle.class_rewrite.proofs.UsedLists.{in_left, in_right}
use Rattle.class_tree.specs.Headers.{Classes, IsClassFile, headers_of}
use Rattle.class_tree.specs.Trees.{IsTree}

-- texts that are there and read the same are the same text
texts_same : (one other : Option (List ℕ)) → IsSome one → IsSome other → text_or_empty one ≡ text_or_empty other → same_text one other ≡ true
texts_same None other some also same = absurd cc
texts_same (Some one) None some also same = absurd cc
texts_same (Some one) (Some other) some also same = (bytes_eq-Decides one other).1 same

both_true : (a b : Bool) → a ≡ true → b ≡ true → (a && b) ≡ true
both_true true true x y = refl
both_true true false x y = y
both_true false b x y = absurd (false≢true x)

any_at : (test : Signature → Bool) (all : List Signature) (n : ℕ) (one : Signature) → slice_get all n ≡ Some one → test one ≡ true → list_any test all ≡ true
any_at test [] n one is passes = absurd (none-some one is)
any_at test (first ∷ all) zero one is passes = or_left (test first) (list_any test all) (ap test (same_Some first one is) ∙ passes)
any_at test (first ∷ all) (suc n) one is passes = or_right (test first) (list_any test all) (any_at test all n one is passes)

module _ (pool : Constants) (flags : ℕ) where
  abbrev Checked : List Signature → ℕ → List Field → Type 0
  Checked before at fields = AllHold (fields_checks pool flags before at fields)

  abbrev here : List Signature → ℕ → Field → List Field → List (Check Fault)
  here before at f fields = fields_checks pool flags (before ++ field_signature f ∷ []) (at + length (field_bytes f)) fields

  own : (before : List Signature) (at : ℕ) (f : Field) (fields : List Field) → Checked before at (f ∷ fields) → AllHold (field_checks pool flags before at f)
  own before at f fields all = first_holds (field_checks pool flags before at f) (here before at f fields) all

  others : (before : List Signature) (at : ℕ) (f : Field) (fields : List Field) → Checked before at (f ∷ fields)
      → Checked (before ++ field_signature f ∷ []) (at + length (field_bytes f)) fields
  others before at f fields all = others_hold (field_checks pool flags before at f) (here before at f fields) all

  -- one of the name and descriptor of one before it does not follow
  later : (one : Field) → IsSome (utf8_at pool one.name) → IsSome (utf8_at pool one.desc)
      → (fields : List Field) (before : List Signature) (at : ℕ) → Checked before at fields
      → (n : ℕ) → slice_get before n ≡ Some (field_signature one)
      → (j : ℕ) (member : Member) → slice_get (map (field_member pool) fields) j ≡ Some member
      → member.name ≡ (field_member pool one).name
      → member.desc ≡ (field_member pool one).desc
      → ⊥
  later one named described [] before at all n stands j member is same_name same_desc = none-some member is
  later one named described (f ∷ fields) before at all n stands zero member is same_name same_desc =
      let checks = own before at f fields all in
      let member_is : field_member pool f ≡ member = same_Some (field_member pool f) member is in
      let name : same_text (utf8_at pool f.name) (utf8_at pool one.name) ≡ true =
      texts_same (utf8_at pool f.name) (utf8_at pool one.name) checks.1.1.0 named (ap (λ (m : Member). m.name) member_is ∙ same_name) in
      let desc : same_text (utf8_at pool f.desc) (utf8_at pool one.desc) ≡ true =
      texts_same (utf8_at pool f.desc) (utf8_at pool one.desc) checks.1.1.1.1.0 described (ap (λ (m : Member). m.desc) member_is ∙ same_desc) in
      false≢true (sym checks.1.0
      ∙ any_at (same_signature pool (field_signature f)) before n (field_signature one) stands
      (both_true (same_text (utf8_at pool f.name) (utf8_at pool one.name)) (same_text (utf8_at pool f.desc) (utf8_at pool one.desc)) name desc))
  later one named described (f ∷ fields) before at all n stands (suc j) member is same_name same_desc =
      let there = in_left before (field_signature f ∷ []) n (field_signature one) stands in
      later one named described fields (before ++ field_signature f ∷ []) (at + length (field_bytes f)) (others before at f fields all)
      there.0 there.1 j member is same_name same_desc

  behind : (f : Field) (fields : List Field) (before : List Signature) (at : ℕ) → Checked before at (f ∷ fields)
      → (j : ℕ) (one member : Member) → field_member pool f ≡ one → slice_get (map (field_member pool) fields) j ≡ Some member
      → one.name ≡ member.name
      → one.desc ≡ member.desc
      → ⊥
  behind f fields before at all j one member first is same_name same_desc =
      let checks = own before at f fields all in
      let stands = in_right before (field_signature f ∷ []) 0 (field_signature f) refl in
      later f checks.1.1.0 checks.1.1.1.1.0 fields (before ++ field_signature f ∷ []) (at + length (field_bytes f)) (others before at f fields all)
      stands.0 stands.1 j member is
      (sym (ap (λ (m : Member). m.name) first ∙ same_name)) (sym (ap (λ (m : Member). m.desc) first ∙ same_desc))

  once : (fields : List Field) (before : List Signature) (at : ℕ) → Checked before at fields
      → (i j : ℕ) (one other : Member)
      → slice_get (map (field_member pool) fields) i ≡ Some one
      → slice_get (map (field_member pool) fields) j ≡ Some other
      → one.name ≡ other.name
      → one.desc ≡ other.desc
      → i ≡ j
  once [] before at all i j one other is also name desc = absurd (none-some one is)
  once (f ∷ fields) before at all zero zero one other is also name desc = refl
  once (f ∷ fields) before at all zero (suc j) one other is also name desc =
      absurd (behind f fields before at all j one other (same_Some (field_member pool f) one is) also name desc)
  once (f ∷ fields) before at all (suc i) zero one other is also name desc =
      absurd (behind f fields before at all i other one (same_Some (field_member pool f) other also) is (sym name) (sym desc))
  once (f ∷ fields) before at all (suc i) (suc j) one other is also name desc =
      ap suc (once fields (before ++ field_signature f ∷ []) (at + length (field_bytes f)) (others before at f fields all) i j one other is also name desc)

file_once : (file : ClassFile) → IsClassFile file → (i j : ℕ) (one other : Member)
    → slice_get (header_of file).fields i ≡ Some one
    → slice_get (header_of file).fields j ≡ Some other
    → one.name ≡ other.name
    → one.desc ≡ other.desc
    → i ≡ j
file_once file read i j one other is also name desc =
    let parts = subst (λ (c : ClassFile). AllHold (fields_checks c.pool c.flags [] (fields_place c + 2) c.fields)) (sym read.is) (parts_hold read.cut read.holds).fields in
    once file.pool file.flags file.fields [] (fields_place file + 2) parts i j one other is also name desc

-- a class file of the folder, by its header
pub file_of : (files : List ClassFile) (class : ℕ) (header : Header) → slice_get (map header_of files) class ≡ Some header
    → (file : ClassFile) × (slice_get files class ≡ Some file) × (header_of file ≡ header)
file_of [] class header is = absurd (none-some header is)
file_of (file ∷ files) zero header is = (file, refl, same_Some (header_of file) header is)
file_of (file ∷ files) (suc class) header is = file_of files class header is

pub number_once : (classes : Classes) → IsTree classes → (class : ℕ) (header : Header) → slice_get (headers_of classes).folder class ≡ Some header
    → (i j : ℕ) (one other : Member)
    → slice_get header.fields i ≡ Some one
    → slice_get header.fields j ≡ Some other
    → one.name ≡ other.name
    → one.desc ≡ other.desc
    → i ≡ j
number_once classes tree class header at i j one other is also name desc =
    let found = file_of classes.folder class header at in
    let read : IsClassFile found.0 = at_index IsClassFile classes.folder class found.0 tree.folder found.1 in
    file_once found.0 read i j one other
    (ap (λ (h : Header). slice_get h.fields i) found.2 ∙ is) (ap (λ (h : Header). slice_get h.fields j) found.2 ∙ also) name desc
