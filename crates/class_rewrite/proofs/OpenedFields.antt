-- A private field that written code of another class uses is open to that class: its flag of private is cleared.
use Rattle.std.proofs.Common.{arith, ◌≡◌, ◌≢◌, ◌==◌, ◌+◌, ◌*◌, ◌≤◌, ◌<◌, ◌%◌, ◌^◌, not, ℕ, zero, suc, Bool, true, false, bit_and, List, [], ◌∷◌, bytes_eq, map, slice_get, if◌then◌else◌, Option, Some, None, IsSome, option_map, option_and_then, IsTrue, IsFalse, refl, sym, ap, subst, ◌∙◌, zero-add}
use Rattle.std.specs.Int.{bit_at}
use Rattle.std.specs.Int.Bits.{and_self, bit_xor, xor_add_and}
use Rattle.std.proofs.lemmas.Bool.{false≢true, or_right}
use Rattle.std.proofs.lemmas.Bool.Decides.{Decides-eqb}
use Rattle.std.proofs.lemmas.Nat.{and_assoc, and_le_l}
use Rattle.std.proofs.lemmas.Nat.Bits.{and_pow, bit_at-lt, bit_at_and, bit_at_xor}
use Rattle.std.proofs.lemmas.Option.{none-some, same_Some, slice_get-map}
use Rattle.std.proofs.lemmas.Slice.Eq.{bytes_eq-Decides}
use Rattle.class_model.specs.Header.{field_member, header_of}
use Rattle.class_model.specs.Members.{FINAL, PRIVATE, PROTECTED, PUBLIC, STATIC, has}
use Rattle.class_model.specs.declared.class_file.ClassFile.{ClassFile}
use Rattle.class_model.specs.declared.class_file.Field.{Field}
use Rattle.class_model.specs.declared.class_file.MethodAt.{MethodAt}
use Rattle.class_model.specs.declared.header.Header.{Header}
use Rattle.class_model.specs.declared.header.Member.{Member}
use Rattle.class_rewrite.proofs.WrittenClasses.{fields_cleared}
use Rattle.class_rewrite.specs.Optimised.{with_folder}
use Rattle.class_rewrite.specs.Rewriting.Folders.{AreClassesWritten, IsClassWritten, IsFolderWritten, field_written}
use Rattle.class_rewrite.specs.Rewriting.Methods.{Rewriting}
use Rattle.class_tree.specs.Alike.{AreFieldsAlike}
use Rattle.class_tree.specs.Headers.{Headers, Name, class_named, headers_of, named}
use Rattle.class_tree.specs.Laws.Headers.{same_class}
use Rattle.class_tree.specs.Names.{is_member}
use Rattle.expanded_code.specs.Quiet.{IsOfFolder}
use Rattle.making_code.specs.Items.{WItem}
use Rattle.member_link.specs.Access.{IsAccessible, in_package, is_own_private, is_public}
use Rattle.member_link.specs.DeclaredMembers.{Declared, declared, declared_by, is_package_access}
use Rattle.member_link.specs.Fields.{FindsField, FindsFirst, above_class, absent_class, in_class, in_no_class, in_other_class, interfaces_and_super}
use Rattle.member_link.specs.Laws.FolderClasses.{class_of_folder}
use Rattle.member_link.specs.Machine.Links.{AreLinksOf, reference_to}
use Rattle.member_link.specs.Machine.Replaced.{Replacement, field_cleared, map_numbered, without_flags}
use Rattle.member_link.specs.Overriding.{package_of}
use Rattle.member_link.specs.References.{Reference}
use Rattle.plan_flow.specs.PlanScope.{field_of, member_of}
use Rattle.plan_flow.specs.Written.WrittenPrograms.{IsFieldOf, OpensPrivate, UsesField, WrittenMethod, items_of, plan_scope}
use Rattle.type_rules.specs.Grown.{AreAllGrown, AreGrownHeaders, IsGrownHeader, IsSameFound}

-- ---- flags

module _ (flags cleared : ℕ) where
  abbrev taken : ℕ
  taken = bit_and flags (bit_and cleared (PRIVATE + FINAL))

  within : bit_and flags taken ≡ taken
  within =
      sym (and_assoc (bit_and cleared (PRIVATE + FINAL)) flags flags)
      ∙ ap (λ (n : ℕ). bit_and n (bit_and cleared (PRIVATE + FINAL))) (and_self flags)

  differ : bit_xor flags taken ≡ without_flags flags cleared
  differ =
      let less : taken ≤ flags = and_le_l flags (bit_and cleared (PRIVATE + FINAL)) in
      omega (arith, xor_add_and flags taken, within, less)

  left : (k : ℕ) → bit_at (without_flags flags cleared) k ≡ (bit_at flags k + bit_at taken k) % 2
  left k = ap (λ (n : ℕ). bit_at n k) (sym differ) ∙ bit_at_xor flags taken k

-- a flag of a place is not there where its bit is 0
no_bit : (flags k : ℕ) → bit_at flags k ≡ 0 → has flags (2 ^ k) ≡ false
no_bit flags k none =
    let nothing : 0 * 2 ^ k ≡ 0 = omega arith in
    ap (λ (n : ℕ). not (n == 0)) (and_pow flags k ∙ ap (λ (n : ℕ). n * 2 ^ k) none ∙ nothing)

one_bit : (flags k : ℕ) → has flags (2 ^ k) ≡ true → bit_at flags k ≡ 1
one_bit flags k is = by (bit_at flags k) refl (bit_at-lt flags k) where
  by : (bit : ℕ) → bit_at flags k ≡ bit → bit < 2 → bit ≡ 1
  by zero e less = absurd (false≢true (sym (no_bit flags k e) ∙ is))
  by (suc bit) e less = omega (arith, less)

-- a private flag that is cleared is not left
private_gone : (flags cleared : ℕ) → has cleared PRIVATE ≡ true → has (without_flags flags cleared) PRIVATE ≡ false
private_gone flags cleared is =
    let own = bit_at_and flags (bit_and cleared (PRIVATE + FINAL)) 1 in
    let both = bit_at_and cleared (PRIVATE + FINAL) 1 in
    let private : bit_at (PRIVATE + FINAL) 1 ≡ 1 = refl in
    no_bit (without_flags flags cleared) 1
    (left flags cleared 1 ∙ omega (arith, own, both, private, one_bit cleared 1 is, bit_at-lt flags 1))

-- a member that is not private is accessible in its package
not_private : (headers : Headers) (from class : Name) (found : Declared) → has found.member.flags PRIVATE ≡ false
    → package_of from ≡ package_of found.class
    → IsAccessible headers from class found
not_private headers from class found private package_same = by (has found.member.flags PUBLIC) refl (has found.member.flags PROTECTED) refl where
  by : (public : Bool) → has found.member.flags PUBLIC ≡ public → (protected : Bool) → has found.member.flags PROTECTED ≡ protected
      → IsAccessible headers from class found
  by true is protected also = is_public is
  by false is true also = in_package (or_right (is_package_access found.member) (has found.member.flags PROTECTED) also) package_same
  by false is false also = in_package (rw (is, also, private) refl) package_same

-- ---- what declares a field

-- the class that declares a field, and that it is the first of its name and descriptor there
pub record IsDeclaredIn (headers : Headers) (name desc : List ℕ) (field : Declared) : Type 0 where
  pub header : Header
  pub there : class_named headers field.class ≡ Some header
  pub declares : declared name desc header.fields ≡ Some field.member

pub found_declared : (headers : Headers) (name desc : List ℕ) (classes : List Name) (found : Option Declared) → FindsFirst headers name desc classes found
    → (field : Declared)
    → found ≡ Some field
    → IsDeclaredIn headers name desc field
found_declared headers name desc _ _ in_no_class field same = absurd (none-some field same)
found_declared headers name desc _ _ (in_class class classes header member there declares) field same =
    subst (IsDeclaredIn headers name desc) (same_Some (declared_by class member) field same)
    (record { header = header; there = there; declares = declares })
found_declared headers name desc _ _ (above_class class classes header other there none finds) field same =
    found_declared headers name desc (interfaces_and_super header) (Some other) finds field same
found_declared headers name desc _ _ (in_other_class class classes header found there none above rest) field same =
    found_declared headers name desc classes found rest field same
found_declared headers name desc _ _ (absent_class class classes found none rest) field same =
    found_declared headers name desc classes found rest field same

-- ---- classes of the folder

-- a class of a name among classes that have grown, by its number
pub record IsGrownAt (olds news : List Header) (name : Name) (header : Header) : Type 0 where
  pub number : ℕ
  pub was : slice_get olds number ≡ Some header
  pub twin : Header
  pub is : slice_get news number ≡ Some twin
  pub found : named name news ≡ Some twin
  pub own_name : header.name ≡ name

pub named_grown : (olds news : List Header) (name : Name) (header : Header) → AreAllGrown olds news → named name olds ≡ Some header
    → IsGrownAt olds news name header
named_grown [] [] name header grown is = absurd (none-some header is)
named_grown [] (new ∷ news) name header grown is = absurd grown
named_grown (old ∷ olds) [] name header grown is = absurd grown
named_grown (old ∷ olds) (new ∷ news) name header grown is = by (bytes_eq name old.name) refl (named_grown olds news name header grown.1) where
  by : (b : Bool) → bytes_eq name old.name ≡ b → (named name olds ≡ Some header → IsGrownAt olds news name header)
      → IsGrownAt (old ∷ olds) (new ∷ news) name header
  by true same rest =
      let first : Some old ≡ Some header = sym (rw (same) refl) ∙ is in
      let twin_same : bytes_eq name new.name ≡ true = ap (bytes_eq name) grown.0.alike.same_name ∙ same in
      record {
        number = zero;
        was = first;
        twin = new;
        is = refl;
        found = rw (twin_same) refl;
        own_name = ap (λ (h : Header). h.name) (sym (same_Some old header first)) ∙ sym ((bytes_eq-Decides name old.name).0 same);
      }
  by false other rest =
      let behind = rest (sym (rw (other) refl) ∙ is) in
      let twin_other : bytes_eq name new.name ≡ false = ap (bytes_eq name) grown.0.alike.same_name ∙ other in
      record {
        number = suc behind.number;
        was = behind.was;
        twin = behind.twin;
        is = behind.is;
        found = rw (twin_other) behind.found;
        own_name = behind.own_name;
      }

-- the class file of a header
pub file_of : (files : List ClassFile) (number : ℕ) (header : Header) → slice_get (map header_of files) number ≡ Some header
    → (file : ClassFile) × (slice_get files number ≡ Some file) × (header_of file ≡ header)
file_of files number header is = by (slice_get files number) refl where
  by : (found : Option ClassFile) → slice_get files number ≡ found → (file : ClassFile) × (slice_get files number ≡ Some file) × (header_of file ≡ header)
  by None none = absurd (none-some header (sym (ap (option_map header_of) none) ∙ sym (slice_get-map header_of files number) ∙ is))
  by (Some file) some =
      (file, some, same_Some (header_of file) header (sym (ap (option_map header_of) some) ∙ sym (slice_get-map header_of files number) ∙ is))

-- ---- fields with their flags cleared

record IsClearedAt (s : Replacement) (class start : ℕ) (name desc : List ℕ) (members : List Member) (found : Member) : Type 0 where
  number : ℕ
  member : Member
  there : slice_get members number ≡ Some member
  declares : declared name desc members ≡ Some member
  is : found ≡ field_cleared s class (start + number) member

declared_cleared : (s : Replacement) (class start : ℕ) (name desc : List ℕ) (members : List Member) (found : Member)
    → declared name desc (map_numbered (field_cleared s class) start members) ≡ Some found
    → IsClearedAt s class start name desc members found
declared_cleared s class start name desc [] found is = absurd (none-some found is)
declared_cleared s class start name desc (member ∷ members) found is =
    by (is_member name desc member) refl (declared_cleared s class (suc start) name desc members found) where
      by : (b : Bool) → is_member name desc member ≡ b
          → (declared name desc (map_numbered (field_cleared s class) (suc start) members) ≡ Some found → IsClearedAt s class (suc start) name desc members found)
          → IsClearedAt s class start name desc (member ∷ members) found
      by true same rest =
          let later : List Member = map_numbered (field_cleared s class) (suc start) members in
          let first : declared name desc (map_numbered (field_cleared s class) start (member ∷ members)) ≡ Some (field_cleared s class start member) =
          ap (λ (b : Bool). if b then Some (field_cleared s class start member) else declared name desc later) same in
          let here : field_cleared s class start member ≡ found = same_Some (field_cleared s class start member) found (sym first ∙ is) in
          let zeroth : start + 0 ≡ start = omega arith in
          record {
            number = zero;
            member = member;
            there = refl;
            declares = rw (same) refl;
            is = sym here ∙ ap (λ (n : ℕ). field_cleared s class n member) (sym zeroth);
          }
      by false other rest =
          let later : List Member = map_numbered (field_cleared s class) (suc start) members in
          let skipped : declared name desc (map_numbered (field_cleared s class) start (member ∷ members)) ≡ declared name desc later =
          ap (λ (b : Bool). if b then Some (field_cleared s class start member) else declared name desc later) other in
          let behind = rest (sym skipped ∙ is) in
          let further : suc start + behind.number ≡ start + suc behind.number = omega arith in
          record {
            number = suc behind.number;
            member = behind.member;
            there = behind.there;
            declares = ap (λ (b : Bool). if b then Some member else declared name desc members) other ∙ behind.declares;
            is = behind.is ∙ ap (λ (n : ℕ). field_cleared s class n behind.member) further;
          }

-- ---- the whole

module _ (r : Rewriting) (files : List ClassFile) (w : IsFolderWritten r files) where
  -- what is written of a class of a number
  pub class_written : (start : ℕ) (olds news : List ClassFile) (number : ℕ) (file also : ClassFile) → AreClassesWritten r w.written w.s start olds news
      → slice_get olds number ≡ Some file
      → slice_get news number ≡ Some also
      → IsClassWritten r w.written w.s (start + number) file also
  class_written start [] news number file also all is is_also = absurd (none-some file is)
  class_written start (old ∷ olds) [] number file also all is is_also = absurd all
  class_written start (old ∷ olds) (new ∷ news) zero file also all is is_also =
      let zeroth : start ≡ start + 0 = omega arith in
      subst (λ (f : ClassFile). IsClassWritten r w.written w.s (start + 0) f also) (same_Some old file is)
      (subst (λ (a : ClassFile). IsClassWritten r w.written w.s (start + 0) old a) (same_Some new also is_also)
      (subst (λ (n : ℕ). IsClassWritten r w.written w.s n old new) zeroth all.0))
  class_written start (old ∷ olds) (new ∷ news) (suc number) file also all is is_also =
      let further : suc start + number ≡ start + suc number = omega arith in
      subst (λ (n : ℕ). IsClassWritten r w.written w.s n file also) further (class_written (suc start) olds news number file also all.1 is is_also)

  pub written_of : (number : ℕ) (file also : ClassFile) → slice_get r.classes.folder number ≡ Some file → slice_get files number ≡ Some also
      → IsClassWritten r w.written w.s number file also
  written_of number file also is is_also =
      subst (λ (n : ℕ). IsClassWritten r w.written w.s n file also) (zero-add number)
      (class_written zero r.classes.folder files number file also w.classes is is_also)

  abbrev before : Headers
  before = headers_of r.classes

  abbrev after : Headers
  after = headers_of (with_folder r.classes files)

  module _ (grown : AreGrownHeaders before after) (links : AreLinksOf before r.links)
      (own : (number : ℕ) (file also : ClassFile) → slice_get r.classes.folder number ≡ Some file → IsClassWritten r w.written w.s number file also
      → IsGrownHeader (header_of file) (header_of also))
      (one_field : (headers : Headers) (class : Name) (name desc : List ℕ) (one other : Option Declared) → FindsField headers class name desc one
      → FindsField headers class name desc other
      → one ≡ other) where
    -- the fields of a written class
    fields_left : (number : ℕ) (file also : ClassFile) → slice_get r.classes.folder number ≡ Some file → IsClassWritten r w.written w.s number file also
        → (header_of also).fields ≡ map_numbered (field_cleared w.s number) zero (header_of file).fields
    fields_left number file also there is =
        let same : also.fields ≡ map_numbered (field_written w.s number) zero file.fields = ap (λ (c : ClassFile). c.fields) is.is in
        ap (map (field_member also.pool)) same
        ∙ fields_cleared w.s number zero file.pool also.pool file.fields
        (subst (λ (fields : List Field). AreFieldsAlike (map (field_member file.pool) file.fields) (map (field_member also.pool) fields)) same
        (own number file also there is).alike.fields)

    -- A private field that written code of a method uses is open to the method's class.
    pub field_opened : (at : MethodAt) (one : WrittenMethod) (host : ClassFile) (place : ℕ) (item : WItem) (class index : ℕ) (reference : Reference)
        (field found : Declared)
        → w.written at ≡ Some one
        → slice_get r.classes.folder at.class ≡ Some host
        → slice_get (items_of r.classes r.links one) place ≡ Some item
        → ((used : Reference) → field_of (plan_scope r.classes r.links one) class index ≡ Some used
        → UsesField (plan_scope r.classes r.links one) used item.instr)
        → member_of (plan_scope r.classes r.links one) class index ≡ Some reference
        → FindsField before reference.class reference.name reference.desc (Some field)
        → FindsField after reference.class reference.name reference.desc (Some found)
        → IsSameFound field found
        → IsTrue (has field.member.flags PRIVATE)
        → IsFalse (has field.member.flags STATIC)
        → IsOfFolder before field.class
        → package_of (header_of host).name ≡ package_of field.class
        → IsAccessible after (header_of host).name reference.class found
    field_opened at one host place item class index reference field found is_written is_host is_item uses names finds finds_also same private instance of_folder
        package_same = by_class (at.class == known.number) refl where
          some_of : (option : Option Header) → IsSome option → (header : Header) × (option ≡ Some header)
          some_of None none = absurd (false≢true none)
          some_of (Some header) some = (header, refl)

          in_folder : (header : Header) × (named field.class before.folder ≡ Some header)
          in_folder = some_of (named field.class before.folder) of_folder

          known : IsGrownAt before.folder after.folder field.class in_folder.0
          known = named_grown before.folder after.folder field.class in_folder.0 grown.folder in_folder.1

          file : (file : ClassFile) × (slice_get r.classes.folder known.number ≡ Some file) × (header_of file ≡ in_folder.0)
          file = file_of r.classes.folder known.number in_folder.0 known.was

          also : (file : ClassFile) × (slice_get files known.number ≡ Some file) × (header_of file ≡ known.twin)
          also = file_of files known.number known.twin known.is

          is_class : IsClassWritten r w.written w.s known.number file.0 also.0
          is_class = written_of known.number file.0 also.0 file.1 also.1

          -- as it was declared
          was : IsDeclaredIn before reference.name reference.desc field
          was = found_declared before reference.name reference.desc (reference.class ∷ []) (Some field) finds field refl

          was_declared : declared reference.name reference.desc (header_of file.0).fields ≡ Some field.member
          was_declared =
              ap (λ (h : Header). declared reference.name reference.desc h.fields)
              (file.2 ∙ same_class before field.class in_folder.0 was.header (class_of_folder before field.class in_folder.0 in_folder.1) was.there)
              ∙ was.declares

          -- as it is declared
          now : IsDeclaredIn after reference.name reference.desc found
          now = found_declared after reference.name reference.desc (reference.class ∷ []) (Some found) finds_also found refl

          now_there : class_named after found.class ≡ Some known.twin
          now_there = ap (class_named after) same.class ∙ class_of_folder after field.class known.twin known.found

          now_declared : declared reference.name reference.desc (map_numbered (field_cleared w.s known.number) zero (header_of file.0).fields)
              ≡ Some found.member
          now_declared =
              ap (declared reference.name reference.desc) (sym (fields_left known.number file.0 also.0 file.1 is_class))
              ∙ ap (λ (h : Header). declared reference.name reference.desc h.fields)
              (also.2 ∙ same_class after found.class known.twin now.header now_there now.there)
              ∙ now.declares

          left_of : IsClearedAt w.s known.number zero reference.name reference.desc (header_of file.0).fields found.member
          left_of = declared_cleared w.s known.number zero reference.name reference.desc (header_of file.0).fields found.member now_declared

          member_same : left_of.member ≡ field.member
          member_same = same_Some left_of.member field.member (sym left_of.declares ∙ was_declared)

          flags_left : found.member.flags ≡ without_flags left_of.member.flags (w.s.cleared known.number left_of.number)
          flags_left =
              ap (λ (m : Member). m.flags) left_of.is
              ∙ ap (λ (n : ℕ). without_flags left_of.member.flags (w.s.cleared known.number n)) (zero-add left_of.number)

          package_found : package_of (header_of host).name ≡ package_of found.class
          package_found = package_same ∙ ap package_of (sym same.class)

          -- the field that is used
          linked : field_of (plan_scope r.classes r.links one) class index ≡ Some (reference_to field)
          linked =
              let link = links.field reference in
              ap (option_and_then r.links.field) names
              ∙ link.same
              ∙ ap (option_map reference_to) (one_field before reference.class reference.name reference.desc link.found (Some field) link.finds finds)

          is_field : IsFieldOf r.classes known.number left_of.number (reference_to field) field.member
          is_field = record {
            header = header_of file.0;
            of_folder = slice_get-map header_of r.classes.folder known.number ∙ ap (option_map header_of) file.1;
            declared = left_of.there ∙ ap Some member_same;
            named = ap (λ (n : Name). record { class = n; name = field.member.name; desc = field.member.desc }) (sym known.own_name ∙ ap (λ (h : Header). h.name) (sym file.2));
            instance = instance;
          }

          opens : at.class ≢ known.number → OpensPrivate r.classes r.links w.written known.number left_of.number
          opens other = record {
            field = reference_to field;
            member = field.member;
            is_field = is_field;
            private = private;
            at = at;
            one = one;
            is_written = is_written;
            other = other;
            place = place;
            item = item;
            is_item = is_item;
            used = uses (reference_to field) linked;
          }

          own_class : at.class ≡ known.number → found.class ≡ (header_of host).name
          own_class same_number =
              let same_file : host ≡ file.0 =
              same_Some host file.0 (sym is_host ∙ ap (slice_get r.classes.folder) same_number ∙ file.1) in
              same.class ∙ sym known.own_name ∙ ap (λ (h : Header). h.name) (sym file.2) ∙ ap (λ (f : ClassFile). (header_of f).name) (sym same_file)

          by_class : (b : Bool) → (at.class == known.number) ≡ b → IsAccessible after (header_of host).name reference.class found
          by_class true told = by (has found.member.flags PRIVATE) refl where
            by : (b : Bool) → has found.member.flags PRIVATE ≡ b → IsAccessible after (header_of host).name reference.class found
            by true is = is_own_private is (own_class ((Decides-eqb at.class known.number).0 told))
            by false is = not_private after (header_of host).name reference.class found is package_found
          by_class false told =
              not_private after (header_of host).name reference.class found
              (ap (λ (n : ℕ). has n PRIVATE) flags_left
              ∙ private_gone left_of.member.flags (w.s.cleared known.number left_of.number)
              ((w.replaces.privates known.number left_of.number).1 (opens (λ same_number. false≢true (sym told ∙ (Decides-eqb at.class known.number).1 same_number)))))
              package_found
