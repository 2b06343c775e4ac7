-- What a tree of classes says of java/lang/Object: no class of the folder is it, and it has an initialiser that the folder's classes call.
use Rattle.std.proofs.Common.{◌≡◌, ◌≢◌, ◌&&◌, ◌++◌, not, ℕ, zero, suc, Bool, true, false, List, [], ◌∷◌, bytes_eq, codes, filter, length, slice_get, Option, Some, None, IfSome, IsSome, IsTrue, refl, sym, subst, ◌∙◌, arith}
use Rattle.std.specs.List.{list_any}
use Rattle.std.proofs.lemmas.Bool.{and_parts, false≢true, not-true}
use Rattle.std.proofs.lemmas.List.Sums.{length-filter}
use Rattle.std.proofs.lemmas.Option.{none-some, same_Some}
use Rattle.class_model.specs.Checks.{AllHold, Check, asked_each}
use Rattle.class_model.specs.Laws.Checks.{first_holds, others_hold}
use Rattle.class_model.specs.Members.{PUBLIC, STATIC, has}
use Rattle.class_model.specs.Names.{init}
use Rattle.class_model.specs.declared.class_file.ClassFile.{ClassFile}
use Rattle.class_model.specs.declared.header.Header.{Header}
use Rattle.class_model.specs.declared.header.Member.{Member}
use Rattle.class_tree.specs.Headers.{Classes, class_named, headers_of, named}
use Rattle.class_tree.specs.Hierarchy.{IsHierarchy}
use Rattle.class_tree.specs.Laws.Headers.{own_name}
use Rattle.class_tree.specs.Names.{cloneable, is_interface, is_member, machine_throwables, method_handle, method_type, base_names, object, serializable, throwable}
use Rattle.class_tree.specs.Problems.{Problem, check}
use Rattle.class_tree.specs.Steps.{HasOneConstructor, base_checks, folder_checks, hierarchy_checks, is_method_handle, is_method_type, is_open_constructor, library_checks, needed_class_checks}
use Rattle.class_tree.specs.Subtype.{IsBelow}
use Rattle.class_tree.specs.Trees.{IsTree}
use Rattle.class_tree.specs.declared.fault.LinkRule.TheVariants as rules
use Rattle.member_link.specs.DeclaredMembers.{declared}
use Rattle.member_link.specs.Laws.FolderClasses.{class_of_folder, folder_index}

each_asked : {F X : Type 0} (asks : X → List (Check F)) (xs : List X) (number : ℕ) (x : X) → AllHold (asked_each asks xs)
    → slice_get xs number ≡ Some x
    → AllHold (asks x)
each_asked asks [] number x all is = absurd (none-some x is)
each_asked asks (first ∷ xs) zero x all is =
    subst (λ y. AllHold (asks y)) (same_Some first x is) (first_holds (asks first) (asked_each asks xs) all)
each_asked asks (first ∷ xs) (suc number) x all is =
    each_asked asks xs number x (others_hold (asks first) (asked_each asks xs) all) is

abbrev base_of : Classes → List ClassFile → List (Check Problem)
base_of classes [] = []
base_of classes (class ∷ folder) = base_checks classes

module _ (classes : Classes) (tree : IsTree classes) where
  hierarchy_holds : AllHold (hierarchy_checks (headers_of classes))
  hierarchy_holds = first_holds (hierarchy_checks (headers_of classes)) (base_of classes classes.folder) tree.holds

  pub not_object : (number : ℕ) (header : Header) → slice_get (headers_of classes).folder number ≡ Some header → header.name ≢ object
  not_object number header is =
      let all = each_asked (folder_checks (headers_of classes)) (headers_of classes).folder number header
      (first_holds (asked_each (folder_checks (headers_of classes)) (headers_of classes).folder)
      (asked_each (library_checks (headers_of classes)) (headers_of classes).library) hierarchy_holds) is in
      all.1.1.1.0.1

  -- no class of the folder is java/lang/Object
  pub no_folder_object : (hierarchy : IsHierarchy (headers_of classes)) → named object (headers_of classes).folder ≡ None
  no_folder_object hierarchy = by (named object (headers_of classes).folder) refl where
    by : (found : Option Header) → named object (headers_of classes).folder ≡ found → named object (headers_of classes).folder ≡ None
    by None none = none
    by (Some header) some =
        let at = folder_index (headers_of classes) object header some in
        absurd (not_object at.0 header at.1 (own_name (headers_of classes) object header (class_of_folder (headers_of classes) object header some)))

  -- ---- its initialiser

  abbrev object_check : List (Check Problem)
  object_check = check object rules.NoMember (IfSome (class_named (headers_of classes) object) HasOneConstructor) ∷ []

  pub object_has : (number : ℕ) (file : ClassFile) → slice_get classes.folder number ≡ Some file
      → IfSome (class_named (headers_of classes) object) HasOneConstructor
  object_has number file is =
      by classes.folder is (others_hold (hierarchy_checks (headers_of classes)) (base_of classes classes.folder) tree.holds) where
        second_of_six : (a b c d e f : List (Check Problem)) → AllHold (a ++ b ++ c ++ d ++ e ++ f) → AllHold b
        second_of_six a b c d e f all =
            others_hold a b (first_holds (a ++ b) c (first_holds (a ++ b ++ c) d (first_holds (a ++ b ++ c ++ d) e
            (first_holds (a ++ b ++ c ++ d ++ e) f all))))

        by : (folder : List ClassFile) → slice_get folder number ≡ Some file → AllHold (base_of classes folder)
            → IfSome (class_named (headers_of classes) object) HasOneConstructor
        by [] there base = absurd (none-some file there)
        by (first ∷ rest) there base =
            (second_of_six (asked_each (λ name. check name rules.Missing (IsSome (named name classes.library)) ∷ []) base_names) object_check
            (asked_each (λ name. check name rules.KindOfSuper (IsBelow (headers_of classes) name throwable) ∷ []) machine_throwables)
            (asked_each (λ name. check name rules.KindOfSuper
            (IfSome (class_named (headers_of classes) name) (λ header. IsTrue (is_interface header))) ∷ []) (serializable ∷ cloneable ∷ []))
            (needed_class_checks is_method_handle method_handle classes) (needed_class_checks is_method_type method_type classes) base).0

-- the initialiser of java/lang/Object, which is no static method
pub record HasInitialiser (header : Header) : Type 0 where
  pub member : Member
  pub found : declared init (codes "()V") header.methods ≡ Some member
  pub no_static : has member.flags STATIC ≡ false

abbrev is_named : Member → Bool
is_named member = bytes_eq init member.name

-- what an open one is
record IsOpen (member : Member) : Type 0 where
  pub declares : is_member init (codes "()V") member ≡ true
  pub no_static : has member.flags STATIC ≡ false
  pub named_so : is_named member ≡ true

is_open : (member : Member) → is_open_constructor member ≡ true → IsOpen member
is_open member opened =
    let parts = and_parts (is_member init (codes "()V") member && has member.flags PUBLIC) (not (has member.flags STATIC)) opened in
    let first = and_parts (is_member init (codes "()V") member) (has member.flags PUBLIC) parts.0 in
    record {
      declares = first.0;
      no_static = not-true (has member.flags STATIC) parts.1;
      named_so = (and_parts (bytes_eq init member.name) (bytes_eq (codes "()V") member.desc) first.0).0;
    }

none_open : (members : List Member) → length (filter is_named members) ≡ 0 → list_any is_open_constructor members ≡ false
none_open [] none = refl
none_open (first ∷ members) none = by (is_named first) (is_open_constructor first) refl refl (none_open members) where
  by : (named_so opened : Bool) → is_named first ≡ named_so → is_open_constructor first ≡ opened
      → (length (filter is_named members) ≡ 0 → list_any is_open_constructor members ≡ false)
      → list_any is_open_constructor (first ∷ members) ≡ false
  by true opened e e_also rest =
      let some : length (filter is_named (first ∷ members)) ≡ suc (length (filter is_named members)) = rw (e) refl in
      absurd (omega (arith, none, some))
  by false true e e_also rest = absurd (false≢true (sym e ∙ (is_open first e_also).named_so))
  by false false e e_also rest = rw (e_also) (rest (sym (rw (e) refl) ∙ none))

has_in : (members : List Member) → list_any is_open_constructor members ≡ true → length (filter is_named members) ≡ 1
    → (member : Member) × (declared init (codes "()V") members ≡ Some member) × (has member.flags STATIC ≡ false)
has_in [] opened once = absurd (false≢true opened)
has_in (first ∷ members) opened once = by (is_named first) (is_open_constructor first) refl refl (has_in members) where
  by : (named_so opens : Bool) → is_named first ≡ named_so → is_open_constructor first ≡ opens
      → (list_any is_open_constructor members ≡ true → length (filter is_named members) ≡ 1
      → (member : Member) × (declared init (codes "()V") members ≡ Some member) × (has member.flags STATIC ≡ false))
      → (member : Member) × (declared init (codes "()V") (first ∷ members) ≡ Some member) × (has member.flags STATIC ≡ false)
  by named_so true e e_also rest =
      let own = is_open first e_also in
      (first, rw (own.declares) refl, own.no_static)
  by true false e e_also rest =
      let some : length (filter is_named (first ∷ members)) ≡ suc (length (filter is_named members)) = rw (e) refl in
      let none = none_open members (omega (arith, once, some)) in
      absurd (false≢true (sym none ∙ (sym (rw (e_also) refl) ∙ opened)))
  by false false e e_also rest =
      let later = rest (sym (rw (e_also) refl) ∙ opened) (sym (rw (e) refl) ∙ once) in
      let skipped : declared init (codes "()V") (first ∷ members) ≡ declared init (codes "()V") members = rw (e) refl in
      (later.0, skipped ∙ later.1, later.2)

-- one that is open is the first of its name and descriptor, as there is no other
pub has_initialiser : (header : Header) → HasOneConstructor header → HasInitialiser header
has_initialiser header has_one =
    let found = has_in header.methods has_one.callable (length-filter is_named header.methods ∙ has_one.once) in
    record { member = found.0; found = found.1; no_static = found.2 }
