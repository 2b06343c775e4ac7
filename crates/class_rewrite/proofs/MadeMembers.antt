-- A class that has its field constructor in the written folder: the constructor is found there, and passes wherever its class may be named.
use Rattle.std.proofs.Common.{◌≡◌, ◌≢◌, ◌==◌, ◌&&◌, ◌++◌, not, ℕ, zero, suc, Bool, true, false, List, [], ◌∷◌, bytes_eq, codes, filter, flat_map, length, map, slice_get, take_while, if◌then◌else◌, Option, Some, None, IfSome, IsSome, option_map, option_and_then, IsFalse, refl, sym, ap, subst, ◌∙◌, arith, append-nil}
use Rattle.std.specs.List.{AllByRecursion, list_any}
use Rattle.std.proofs.lemmas.Bool.{and_parts, eqb-true, false≢true, not-true}
use Rattle.std.proofs.lemmas.List.{length-map, map-append}
use Rattle.std.proofs.lemmas.List.Sums.{length-filter, take_while-cons}
use Rattle.std.proofs.lemmas.Option.{none-some, same_Some, slice_get-map}
use Rattle.std.proofs.lemmas.Slice.Eq.{bytes_eq-Decides}
use Rattle.class_model.specs.Characters.{left_bracket}
use Rattle.class_model.specs.Checks.{AllHold, Check, asked_each}
use Rattle.class_model.specs.Descriptors.{brackets, descriptor_text, field_type_text, result_text}
use Rattle.class_model.specs.Header.{header_of, method_member}
use Rattle.class_model.specs.Laws.Lists.{at_index}
use Rattle.class_model.specs.Laws.Checks.{first_holds, others_hold}
use Rattle.class_model.specs.Members.{PUBLIC, STATIC, has}
use Rattle.class_model.specs.Names.{init}
use Rattle.class_model.specs.Pool.{Constants}
use Rattle.class_model.specs.declared.class_file.ClassFile.{ClassFile}
use Rattle.class_model.specs.declared.class_file.Method.{Method}
use Rattle.class_model.specs.declared.descriptor.FieldType.{FieldType}
use Rattle.class_model.specs.declared.descriptor.FieldType.TheVariants as field_types
use Rattle.class_model.specs.declared.header.Header.{Header}
use Rattle.class_model.specs.declared.header.Member.{Member}
use Rattle.class_model.specs.declared.opcodes.TheConstants.{INVOKEINTERFACE, INVOKESPECIAL, INVOKESTATIC}
use Rattle.class_model.specs.declared.pool.Const.TheVariants as consts
use Rattle.class_rewrite.proofs.DeclaredFolders.{DeclaredLaws, constructor_names, declared as declared_before, same_behind, there_now, types_there, written_many}
use Rattle.class_rewrite.proofs.MadeClasses.{above_there, described, kept_name}
use Rattle.class_rewrite.proofs.OpenedFields.{IsGrownAt, file_of, named_grown, written_of}
use Rattle.class_rewrite.proofs.WrittenFolders.{made_is_candidate}
use Rattle.class_rewrite.specs.Inner.ReadyFolders.{IsReadyFolder, setup_of}
use Rattle.class_rewrite.specs.Laws.MadeConstructors.{made_is_added}
use Rattle.class_rewrite.specs.Optimised.{with_folder}
use Rattle.class_rewrite.specs.Rewriting.Folders.{AddsMethods, IsClassWritten, IsFolderWritten, IsMade, adds_none, adds_one}
use Rattle.class_rewrite.specs.Rewriting.Methods.{Rewriting}
use Rattle.class_rewrite.specs.Rewriting.Verifying.{IsOfVerified}
use Rattle.class_tree.specs.Headers.{Headers, IsClassFile, IsThere, Name, class_named, headers_of, named}
use Rattle.class_tree.specs.Laws.Above.{hierarchy_is_sound, superclass_kind}
use Rattle.class_tree.specs.Laws.Headers.{same_class}
use Rattle.class_tree.specs.Layouts.{chain, own_fields, superclasses}
use Rattle.class_tree.specs.Names.{is_interface, is_member, object}
use Rattle.class_tree.specs.Steps.{HasOneConstructor, is_open_constructor, supers}
use Rattle.class_tree.specs.Subtype.{IsArray}
use Rattle.class_tree.specs.declared.place.Place.TheVariants.{Folder}
use Rattle.expanded_code.specs.Candidates.{IsCandidate}
use Rattle.expanded_code.specs.Laws.SuperChains.{super_there}
use Rattle.expanded_code.specs.Quiet.{IsOfFolder}
use Rattle.member_link.specs.Access.{IsClassAccessible, is_public}
use Rattle.member_link.specs.Declarations.{Site, declaration_checks, declared_field_checks, declared_method_checks, site_of}
use Rattle.member_link.specs.DeclaredMembers.{Declared, declared, declared_by, own_method}
use Rattle.member_link.specs.Forms.{FitsCall}
use Rattle.member_link.specs.Laws.FolderClasses.{class_of_folder, found_in_folder}
use Rattle.member_link.specs.LinkedPlaces.{MethodPasses}
use Rattle.member_link.specs.Methods.{FindsMethod, initialiser}
use Rattle.member_link.specs.References.{DescriptorNames, FieldTypeNames, IsNamedAccessible, NamesElementClass, TypeNames, element_class}
use Rattle.member_link.specs.Scope.{Scope}
use Rattle.plan_flow.specs.Laws.OpenEdges.{all_still}
use Rattle.type_rules.specs.Grown.{AreAllGrown, AreGrownHeaders, IsGrownHeader}
use Rattle.written_files.specs.FieldConstructors.{IsDescribed, constructor_member}
use Rattle.written_files.specs.LinkedConstructors.{HasLinkedMembers, called_of}
use Rattle.written_runs.specs.Inner.Setup.{Setup}
use Rattle.written_runs.specs.Laws.AddedConstructors.{IsAddedTo, added_to, each_name, of_chain}
use Rattle.written_runs.specs.Laws.ConstructorTexts.{ReadsParameters}
use Rattle.written_runs.specs.Laws.ApartFields.{declared_itself, fields_distinct}
use Rattle.written_runs.specs.Laws.FolderFacts.{no_folder_object, object_has}

-- ---- lists

-- what holds of the item of each number holds of each item
pub each_of : {A : Type 0} (P : A → Type 0) (xs : List A) → ((n : ℕ) (x : A) → slice_get xs n ≡ Some x → P x) → AllByRecursion P xs
each_of P [] each = tt
each_of P (x ∷ xs) each = (each zero x refl, each_of P xs (λ n one is. each (suc n) one is))

head_of : {A : Type 0} (x y : A) (xs ys : List A) → x ∷ xs ≡ y ∷ ys → x ≡ y
head_of x y xs ys e = cc e

tail_of : {A : Type 0} (x y : A) (xs ys : List A) → x ∷ xs ≡ y ∷ ys → xs ≡ ys
tail_of x y xs ys e = cc e

-- ---- names

-- a name that is none of an array names its own class
pub names_itself : (name : Name) → ¬ IsArray name → element_class name ≡ Some name
names_itself [] flat = refl
names_itself (first ∷ rest) flat = by (first == left_bracket) refl where
  by : (b : Bool) → (first == left_bracket) ≡ b → element_class (first ∷ rest) ≡ Some (first ∷ rest)
  by true is = absurd (flat (rest, ap (λ (n : ℕ). n ∷ rest) (eqb-true first left_bracket is)))
  by false is =
      let none : brackets (first ∷ rest) ≡ 0 =
      ap length (take_while-cons (λ b. b == left_bracket) first rest) ∙ ap (λ (b : Bool). length (if b then first ∷ take_while (λ x. x == left_bracket) rest else [])) is in
      rw (none) refl

-- what holds of the class that it names
pub of_itself : (P : Name → Type 0) (name : Name) → ¬ IsArray name → P name → NamesElementClass P name
of_itself P name flat holds = subst (λ (found : Option Name). IfSome found P) (sym (names_itself name flat)) holds

-- ---- the descriptor of java/lang/Object's initialiser

record BeginsType (type : FieldType) : Type 0 where
  first : ℕ
  rest : List ℕ
  is : field_type_text type ≡ first ∷ rest
  no_parenthesis : first ≢ 41
  no_void : first ≢ 86

begins_type : (type : FieldType) → BeginsType type
begins_type field_types.Byte = record { first = 66; rest = []; is = refl; no_parenthesis = λ e. false≢true (ap (λ (n : ℕ). n == 41) e); no_void = λ e. false≢true (ap (λ (n : ℕ). n == 86) e) }
begins_type field_types.Char = record { first = 67; rest = []; is = refl; no_parenthesis = λ e. false≢true (ap (λ (n : ℕ). n == 41) e); no_void = λ e. false≢true (ap (λ (n : ℕ). n == 86) e) }
begins_type field_types.Double = record { first = 68; rest = []; is = refl; no_parenthesis = λ e. false≢true (ap (λ (n : ℕ). n == 41) e); no_void = λ e. false≢true (ap (λ (n : ℕ). n == 86) e) }
begins_type field_types.Float = record { first = 70; rest = []; is = refl; no_parenthesis = λ e. false≢true (ap (λ (n : ℕ). n == 41) e); no_void = λ e. false≢true (ap (λ (n : ℕ). n == 86) e) }
begins_type field_types.Int = record { first = 73; rest = []; is = refl; no_parenthesis = λ e. false≢true (ap (λ (n : ℕ). n == 41) e); no_void = λ e. false≢true (ap (λ (n : ℕ). n == 86) e) }
begins_type field_types.Long = record { first = 74; rest = []; is = refl; no_parenthesis = λ e. false≢true (ap (λ (n : ℕ). n == 41) e); no_void = λ e. false≢true (ap (λ (n : ℕ). n == 86) e) }
begins_type field_types.Short = record { first = 83; rest = []; is = refl; no_parenthesis = λ e. false≢true (ap (λ (n : ℕ). n == 41) e); no_void = λ e. false≢true (ap (λ (n : ℕ). n == 86) e) }
begins_type field_types.Bool = record { first = 90; rest = []; is = refl; no_parenthesis = λ e. false≢true (ap (λ (n : ℕ). n == 41) e); no_void = λ e. false≢true (ap (λ (n : ℕ). n == 86) e) }
begins_type (field_types.Named []) = record { first = 76; rest = 59 ∷ []; is = refl; no_parenthesis = λ e. false≢true (ap (λ (n : ℕ). n == 41) e); no_void = λ e. false≢true (ap (λ (n : ℕ). n == 86) e) }
begins_type (field_types.Named (first ∷ rest)) = by (first == left_bracket) refl where
  by : (b : Bool) → (first == left_bracket) ≡ b → BeginsType (field_types.Named (first ∷ rest))
  by true is =
      let same : first ≡ 91 = eqb-true first left_bracket is in
      record {
        first = first;
        rest = rest;
        is = rw (is) refl;
        no_parenthesis = λ e. omega (arith, same, e);
        no_void = λ e. omega (arith, same, e);
      }
  by false is = record {
    first = 76;
    rest = first ∷ rest ++ 59 ∷ [];
    is = rw (is) refl;
    no_parenthesis = λ e. false≢true (ap (λ (n : ℕ). n == 41) e);
    no_void = λ e. false≢true (ap (λ (n : ℕ). n == 86) e);
  }

-- it names no class
object_names : (Asked : Name → Type 0) → DescriptorNames Asked (codes "()V")
object_names Asked descriptor spells = by descriptor.params descriptor.result refl refl where
  by : (params : List FieldType) (result : Option FieldType) → descriptor.params ≡ params → descriptor.result ≡ result
      → AllByRecursion (TypeNames Asked) descriptor.params × IfSome descriptor.result (TypeNames Asked)
  by [] None is is_also = rw (is, is_also) (tt, tt)
  by [] (Some type) is is_also =
      let begins = begins_type type in
      let text : 40 ∷ 41 ∷ 86 ∷ [] ≡ 40 ∷ 41 ∷ field_type_text type =
      spells.spelled ∙ ap (λ (p : List FieldType). descriptor_text (record { params = p; result = descriptor.result })) is
      ∙ ap (λ (o : Option FieldType). descriptor_text (record { params = []; result = o })) is_also in
      let behind : 86 ∷ [] ≡ begins.first ∷ begins.rest =
      tail_of 41 41 (86 ∷ []) (field_type_text type) (tail_of 40 40 (41 ∷ 86 ∷ []) (41 ∷ field_type_text type) text) ∙ begins.is in
      absurd (begins.no_void (sym (head_of 86 begins.first [] begins.rest behind)))
  by (type ∷ params) result is is_also =
      let begins = begins_type type in
      let text : 40 ∷ 41 ∷ 86 ∷ []
      ≡ 40 ∷ (flat_map field_type_text (type ∷ params) ++ 41 ∷ result_text descriptor.result) =
      spells.spelled ∙ ap (λ (p : List FieldType). descriptor_text (record { params = p; result = descriptor.result })) is in
      let more : List ℕ = flat_map field_type_text params in
      let behind : 41 ∷ 86 ∷ [] ≡ ((begins.first ∷ begins.rest) ++ more) ++ 41 ∷ result_text descriptor.result =
      tail_of 40 40 (41 ∷ 86 ∷ []) (flat_map field_type_text (type ∷ params) ++ 41 ∷ result_text descriptor.result) text
      ∙ ap (λ (t : List ℕ). (t ++ more) ++ 41 ∷ result_text descriptor.result) begins.is in
      absurd (begins.no_parenthesis (sym (head_of 41 begins.first (86 ∷ []) ((begins.rest ++ more) ++ 41 ∷ result_text descriptor.result) behind)))

-- ---- lists of methods

declared_behind : (name desc : List ℕ) (front back : List Member) → declared name desc front ≡ None
    → declared name desc (front ++ back) ≡ declared name desc back
declared_behind name desc [] back none = refl
declared_behind name desc (first ∷ front) back none = by (is_member name desc first) refl (declared_behind name desc front back) where
  by : (b : Bool) → is_member name desc first ≡ b
      → (declared name desc front ≡ None → declared name desc (front ++ back) ≡ declared name desc back)
      → declared name desc (first ∷ (front ++ back)) ≡ declared name desc back
  by true is rest = absurd (none-some first (sym none ∙ rw (is) refl))
  by false is rest = rw (is) (rest (sym (rw (is) refl) ∙ none))

-- ---- java/lang/Object's initialiser

-- the first initialiser with no parameters is public and not static
record IsOpenIn (methods : List Member) : Type 0 where
  open_member : Member
  first : declared init (codes "()V") methods ≡ Some open_member
  public : has open_member.flags PUBLIC ≡ true
  no_static : has open_member.flags STATIC ≡ false

abbrev is_named : Member → Bool
is_named one = bytes_eq init one.name

record IsOpen (member : Member) : Type 0 where
  declares : is_member init (codes "()V") member ≡ true
  public : has member.flags PUBLIC ≡ true
  no_static : has member.flags STATIC ≡ false
  named_so : is_named member ≡ true

is_open : (member : Member) → is_open_constructor member ≡ true → IsOpen member
is_open member opened =
    let parts = and_parts (is_member init (codes "()V") member && has member.flags PUBLIC) (not (has member.flags STATIC)) opened in
    let first = and_parts (is_member init (codes "()V") member) (has member.flags PUBLIC) parts.0 in
    record {
      declares = first.0;
      public = first.1;
      no_static = not-true (has member.flags STATIC) parts.1;
      named_so = (and_parts (bytes_eq init member.name) (bytes_eq (codes "()V") member.desc) first.0).0;
    }

none_open : (members : List Member) → length (filter is_named members) ≡ 0 → list_any is_open_constructor members ≡ false
none_open [] none = refl
none_open (first ∷ members) none = by (is_named first) (is_open_constructor first) refl refl (none_open members) where
  by : (named_so opened : Bool) → is_named first ≡ named_so → is_open_constructor first ≡ opened
      → (length (filter is_named members) ≡ 0 → list_any is_open_constructor members ≡ false)
      → list_any is_open_constructor (first ∷ members) ≡ false
  by true opened e e_also rest =
      let some : length (filter is_named (first ∷ members)) ≡ suc (length (filter is_named members)) = rw (e) refl in
      absurd (omega (arith, none, some))
  by false true e e_also rest = absurd (false≢true (sym e ∙ (is_open first e_also).named_so))
  by false false e e_also rest = rw (e_also) (rest (sym (rw (e) refl) ∙ none))

open_in : (members : List Member) → list_any is_open_constructor members ≡ true → length (filter is_named members) ≡ 1 → IsOpenIn members
open_in [] opened once = absurd (false≢true opened)
open_in (first ∷ members) opened once = by (is_named first) (is_open_constructor first) refl refl (open_in members) where
  by : (named_so opens : Bool) → is_named first ≡ named_so → is_open_constructor first ≡ opens
      → (list_any is_open_constructor members ≡ true → length (filter is_named members) ≡ 1 → IsOpenIn members)
      → IsOpenIn (first ∷ members)
  by named_so true e e_also rest =
      let own = is_open first e_also in
      record { open_member = first; first = rw (own.declares) refl; public = own.public; no_static = own.no_static }
  by true false e e_also rest =
      let some : length (filter is_named (first ∷ members)) ≡ suc (length (filter is_named members)) = rw (e) refl in
      let none = none_open members (omega (arith, once, some)) in
      absurd (false≢true (sym none ∙ (sym (rw (e_also) refl) ∙ opened)))
  by false false e e_also rest =
      let later = rest (sym (rw (e_also) refl) ∙ opened) (sym (rw (e) refl) ∙ once) in
      let skipped : declared init (codes "()V") (first ∷ members) ≡ declared init (codes "()V") members = rw (e) refl in
      record { open_member = later.open_member; first = skipped ∙ later.first; public = later.public; no_static = later.no_static }

-- ---- classes

-- a class that no class of the first list is stands in the second
named_behind : (name : Name) (front back : List Header) → named name front ≡ None → named name (front ++ back) ≡ named name back
named_behind name [] back none = refl
named_behind name (first ∷ front) back none = by (bytes_eq name first.name) refl (named_behind name front back) where
  by : (b : Bool) → bytes_eq name first.name ≡ b → (named name front ≡ None → named name (front ++ back) ≡ named name back)
      → named name (first ∷ (front ++ back)) ≡ named name back
  by true e rest = absurd (none-some first (sym none ∙ rw (e) refl))
  by false e rest = rw (e) (rest (sym (rw (e) refl) ∙ none))

-- nor is one where they have grown
none_grown : (olds news : List Header) (name : Name) → AreAllGrown olds news → named name olds ≡ None → named name news ≡ None
none_grown [] [] name grown none = refl
none_grown [] (new ∷ news) name grown none = absurd grown
none_grown (old ∷ olds) [] name grown none = absurd grown
none_grown (old ∷ olds) (new ∷ news) name grown none = by (bytes_eq name old.name) refl (none_grown olds news name grown.1) where
  by : (b : Bool) → bytes_eq name old.name ≡ b → (named name olds ≡ None → named name news ≡ None) → named name (new ∷ news) ≡ None
  by true e rest = absurd (none-some old (sym none ∙ rw (e) refl))
  by false e rest =
      let twin : bytes_eq name new.name ≡ false = ap (bytes_eq name) grown.0.alike.same_name ∙ e in
      rw (twin) (rest (sym (rw (e) refl) ∙ none))

each_asked : {F X : Type 0} (asks : X → List (Check F)) (xs : List X) (number : ℕ) (x : X) → AllHold (asked_each asks xs)
    → slice_get xs number ≡ Some x
    → AllHold (asks x)
each_asked asks [] number x all is = absurd (none-some x is)
each_asked asks (first ∷ xs) zero x all is = subst (λ y. AllHold (asks y)) (same_Some first x is) (first_holds (asks first) (asked_each asks xs) all)
each_asked asks (first ∷ xs) (suc number) x all is = each_asked asks xs number x (others_hold (asks first) (asked_each asks xs) all) is

-- ---- laws of the crates below

pub record MadeLaws : Type 0 where
  pub declared : DeclaredLaws
  pub methods : (old new : Headers) (class : Name) (name desc : List ℕ) (method : Declared) → AreGrownHeaders old new
      → FindsMethod old class name desc (Some method)
      → FindsMethod new class name desc (Some method)
  pub class_access : (old new : Headers) (from name : Name) → AreGrownHeaders old new → IsClassAccessible old from name → IsClassAccessible new from name
  pub reads : ReadsParameters

module _ (laws : MadeLaws) (r : Rewriting) (files : List ClassFile) (w : IsFolderWritten r files) (verified : IsOfVerified r)
    (ready : IsReadyFolder r files w) where
  abbrev before : Headers
  before = headers_of r.classes

  abbrev after : Headers
  after = headers_of (with_folder r.classes files)

  abbrev u : Setup
  u = setup_of r files w ready.flats ready.typings

  -- ---- its class

  -- a class of that name in the folder, and what is written of it
  pub record IsMadeFile (name : Name) : Type 0 where
    pub number : ℕ
    pub file : ClassFile
    pub also : ClassFile
    pub is_file : slice_get r.classes.folder number ≡ Some file
    pub is_also : slice_get files number ≡ Some also
    pub own_name : (header_of file).name ≡ name
    pub is_class : IsClassWritten r w.written w.s number file also
    pub named_before : class_named before name ≡ Some (header_of file)
    pub named_after : class_named after name ≡ Some (header_of also)

  some_of : (option : Option Header) → IsSome option → (header : Header) × (option ≡ Some header)
  some_of None none = absurd (false≢true none)
  some_of (Some header) some = (header, refl)

  candidate : (name : Name) → (made : IsMade r w.written name) → IsCandidate r.classes made.class
  candidate name made = made_is_candidate r files w ready.ready made.class made.makes

  pub folder_file : (name : Name) (header : Header) → named name before.folder ≡ Some header → IsMadeFile name
  folder_file name header is =
      let known = named_grown before.folder after.folder name header ready.headers.folder is in
      let file = file_of r.classes.folder known.number header known.was in
      let also = file_of files known.number known.twin known.is in
      record {
        number = known.number;
        file = file.0;
        also = also.0;
        is_file = file.1;
        is_also = also.1;
        own_name = ap (λ (h : Header). h.name) file.2 ∙ known.own_name;
        is_class = written_of r files w known.number file.0 also.0 file.1 also.1;
        named_before = class_of_folder before name header is ∙ ap Some (sym file.2);
        named_after = class_of_folder after name known.twin known.found ∙ ap Some (sym also.2);
      }

  made_file : (name : Name) → IsMade r w.written name → IsMadeFile name
  made_file name made =
      let there = each_name (IsOfFolder before) (chain before made.class) name (candidate name made).quiet.above made.of_chain in
      let header = some_of (named name before.folder) there in
      folder_file name header.0 header.1

  module _ (name : Name) (made : IsMade r w.written name) where
    known : IsMadeFile name
    known = made_file name made

    own_made : IsMade r w.written (header_of known.file).name
    own_made = subst (IsMade r w.written) (sym known.own_name) made

    is_class_file : IsClassFile known.file
    is_class_file = at_index IsClassFile r.classes.folder known.number known.file verified.tree.folder known.is_file

    added_is : IsAddedTo u ready.setup ready.hierarchy ready.adds known.file
    added_is =
        added_to u ready.setup ready.hierarchy ready.adds known.number known.file known.is_file
        (made_is_added r files w verified.tree.in_order known.number known.file known.is_file own_made)

    undeclared : declared init (r.constructor (header_of known.file).name) (header_of known.file).methods ≡ None
    undeclared =
        ready.free known.number known.file _ known.is_file
        (made_is_added r files w verified.tree.in_order known.number known.file known.is_file own_made)

    grown : IsGrownHeader (header_of known.file) (header_of known.also)
    grown = laws.declared.header known.file known.also is_class_file (ready.grown known.number known.file known.also known.is_file known.is_class)

    -- its only method behind those that it had is the constructor
    last_is : {pool last : Constants} (added : List Method) → AddsMethods r w.written known.file pool last added → last ≡ known.also.pool
        → map (method_member known.also.pool) added ≡ constructor_member r.constructor (header_of known.file).name ∷ []
    last_is _ (adds_none none) same = absurd (none own_made)
    last_is {pool = pool} {last = last} _ (adds_one {method = method} is_made grows is_method) same =
        ap (λ (m : Member). m ∷ [])
        (ap (λ (p : Constants). method_member p method) (sym same ∙ sym (append-nil last))
        ∙ laws.declared.member before r.constructor (header_of known.file).name pool last [] method grows is_method)

    behind_is : grown.alike.added ≡ constructor_member r.constructor (header_of known.file).name ∷ []
    behind_is =
        let kept : List Member = map (method_member known.also.pool) known.is_class.methods in
        let long : length (header_of known.file).methods ≡ length kept =
        length-map known.file.methods (method_member known.file.pool)
        ∙ written_many r known.number zero known.file.methods known.is_class.methods known.is_class.are_methods
        ∙ sym (length-map known.is_class.methods (method_member known.also.pool)) in
        let both : (header_of known.file).methods ++ grown.alike.added ≡ kept ++ map (method_member known.also.pool) known.is_class.added =
        sym grown.alike.methods
        ∙ ap (λ (c : ClassFile). map (method_member known.also.pool) c.methods) known.is_class.is
        ∙ map-append (method_member known.also.pool) known.is_class.methods known.is_class.added in
        same_behind (header_of known.file).methods kept grown.alike.added (map (method_member known.also.pool) known.is_class.added) long both
        ∙ last_is known.is_class.added known.is_class.adds (sym (ap (λ (c : ClassFile). c.pool) known.is_class.is))

    abbrev member : Member
    member = constructor_member r.constructor (header_of known.file).name

    here : is_member init (r.constructor (header_of known.file).name) member ≡ true
    here =
        let same = (bytes_eq-Decides (r.constructor (header_of known.file).name) (r.constructor (header_of known.file).name)).1 refl in
        rw (same) refl

    declares : declared init (r.constructor (header_of known.file).name) (header_of known.also).methods ≡ Some member
    declares =
        ap (declared init (r.constructor (header_of known.file).name)) (grown.alike.methods ∙ ap (λ (more : List Member). (header_of known.file).methods ++ more) behind_is)
        ∙ declared_behind init (r.constructor (header_of known.file).name) (header_of known.file).methods (member ∷ []) undeclared
        ∙ rw (here) refl

    finds : own_method after name init (r.constructor name) ≡ Some (declared_by name member)
    finds =
        ap (λ (n : Name). own_method after name init (r.constructor n)) (sym known.own_name)
        ∙ ap (option_and_then (λ (header : Header). option_map (declared_by name) (declared init (r.constructor (header_of known.file).name) header.methods)))
        known.named_after
        ∙ ap (option_map (declared_by name)) declares

    flat : ¬ IsArray name
    flat array = none-some (header_of known.file) (sym (ready.hierarchy.no_array name array) ∙ known.named_before)

    no_interface : IsFalse (is_interface (header_of known.also))
    no_interface = ap (λ (flags : ℕ). is_interface (record (header_of known.also) { flags = flags })) grown.alike.same_flags ∙ added_is.no_interface

    -- It passes wherever its class may be named.
    pub constructor_passes : (pool : Constants) (site : Site) (a b : ℕ) → IsNamedAccessible after site.class name
        → MethodPasses (record { headers = after; pool = pool; site = site }) (FitsCall after INVOKESPECIAL (Some (consts.Methodref a b)))
        (record { class = name; name = init; desc = r.constructor name })
    constructor_passes pool site a b accessible = record {
      there = of_itself (IsThere after) name flat (rw (known.named_after) refl);
      others_there = constructor_names laws.declared r files w verified ready name (subst (IsDescribed before r.constructor) known.own_name (described u ready.setup ready.hierarchy ready.adds laws.reads known.file added_is));
      class_accessible = accessible;
      member = declared_by name member;
      found = subst (FindsMethod after name init (r.constructor name)) finds (initialiser refl);
      form = record {
        of_static = λ e. absurd (false≢true (ap (λ (n : ℕ). n == INVOKESTATIC) e));
        of_instance = λ other. refl;
        kind = λ header is.
            subst (λ (h : Header). IsFalse (is_interface h)) (same_class after name (header_of known.also) header known.named_after is) no_interface;
        initialiser = λ e. refl;
        no_private = λ e. absurd (false≢true (ap (λ (n : ℕ). n == INVOKEINTERFACE) e));
      };
      accessible = is_public refl;
    }

  -- ---- the constructor that is called

  module _ (number : ℕ) (file : ClassFile) (there : slice_get r.classes.folder number ≡ Some file) where
    here_named : named (header_of file).name before.folder ≡ Some (header_of file)
    here_named =
        found_in_folder before ready.hierarchy number (header_of file)
        (slice_get-map header_of r.classes.folder number ∙ ap (option_map header_of) there)

    here_class : class_named before (header_of file).name ≡ Some (header_of file)
    here_class = class_of_folder before (header_of file).name (header_of file) here_named

    declared_there : AllHold (declaration_checks before (header_of file))
    declared_there =
        each_asked (declaration_checks before) before.folder number (header_of file)
        (declared_before laws.declared r files w verified ready)
        (slice_get-map header_of r.classes.folder number ∙ ap (option_map header_of) there)

    module _ (above : Name) (is_above : (header_of file).super_name ≡ Some above) where
      -- the class above is there, is no interface, and may be named
      above_class : (high : Header) × (class_named before above ≡ Some high)
      above_class = super_there before ready.hierarchy (header_of file).name (header_of file) here_class above is_above

      above_accessible : IsClassAccessible before (header_of file).name above
      above_accessible = in_list (header_of file).super_name is_above declared_there.0 where
        in_list : (super : Option Name) → super ≡ Some above
            → AllByRecursion (IsClassAccessible before (header_of file).name) (supers (record (header_of file) { super_name = super }))
            → IsClassAccessible before (header_of file).name above
        in_list None none all = absurd (none-some above none)
        in_list (Some name) some all = subst (IsClassAccessible before (header_of file).name) (same_Some name above some) all.0

      flat_above : ¬ IsArray above
      flat_above array = none-some above_class.0 (sym (ready.hierarchy.no_array above array) ∙ above_class.1)

      may_name : IsNamedAccessible after (header_of file).name above
      may_name =
          of_itself (IsClassAccessible after (header_of file).name) above flat_above
          (laws.class_access before after (header_of file).name above ready.headers above_accessible)

      -- of java/lang/Object
      object_passes : above ≡ object → (pool : Constants) (site : Site) → site.class ≡ (header_of file).name
          → MethodPasses (record { headers = after; pool = pool; site = site }) (FitsCall after INVOKESPECIAL (Some (consts.Methodref 0 0)))
          (record { class = object; name = init; desc = codes "()V" })
      object_passes same pool site from = record {
        there = of_itself (IsThere after) object flat_object (subst (IsThere after) same (there_now laws.declared r files w verified ready above (rw (above_class.1) refl)));
        others_there = object_names (IsThere after);
        class_accessible = subst (λ (n : Name). IsNamedAccessible after n object) (sym from) (subst (IsNamedAccessible after (header_of file).name) same may_name);
        member = declared_by object opened.open_member;
        found = laws.methods before after object init (codes "()V") (declared_by object opened.open_member) ready.headers
            (subst (FindsMethod before object init (codes "()V")) finds_it (initialiser refl));
        form = record {
          of_static = λ e. absurd (false≢true (ap (λ (n : ℕ). n == INVOKESTATIC) e));
          of_instance = λ other. opened.no_static;
          kind = no_interface_now;
          initialiser = λ e. refl;
          no_private = λ e. absurd (false≢true (ap (λ (n : ℕ). n == INVOKEINTERFACE) e));
        };
        accessible = is_public opened.public;
      } where
        high : class_named before object ≡ Some above_class.0
        high = ap (class_named before) (sym same) ∙ above_class.1

        has_one : HasOneConstructor above_class.0
        has_one = subst (λ (found : Option Header). IfSome found HasOneConstructor) high (object_has r.classes verified.tree number file there)

        opened : IsOpenIn above_class.0.methods
        opened = open_in above_class.0.methods has_one.callable (length-filter is_named above_class.0.methods ∙ has_one.once)

        finds_it : own_method before object init (codes "()V") ≡ Some (declared_by object opened.open_member)
        finds_it =
            ap (option_and_then (λ (header : Header). option_map (declared_by object) (declared init (codes "()V") header.methods))) high
            ∙ ap (option_map (declared_by object)) opened.first

        flat_object : ¬ IsArray object
        flat_object array = flat_above (subst IsArray (sym same) array)

        kind_before : IsFalse (is_interface above_class.0)
        kind_before =
            superclass_kind before (hierarchy_is_sound before ready.hierarchy) (header_of file).name (header_of file) here_class above is_above above_class.0
            above_class.1

        -- it is a class of the library, which stays
        in_library : named object r.classes.library ≡ Some above_class.0
        in_library =
            sym (named_behind object before.folder r.classes.library (no_folder_object r.classes verified.tree ready.hierarchy)) ∙ high

        no_interface_now : (header : Header) → class_named after object ≡ Some header → IsFalse (is_interface header)
        no_interface_now header is =
            subst (λ (h : Header). IsFalse (is_interface h)) (same_class after object above_class.0 header after_is is) kind_before where
              after_is : class_named after object ≡ Some above_class.0
              after_is =
                  named_behind object after.folder r.classes.library
                  (none_grown before.folder after.folder object ready.headers.folder (no_folder_object r.classes verified.tree ready.hierarchy))
                  ∙ in_library

      -- the class above has its field constructor too
      above_made : IsMade r w.written (header_of file).name → above ≢ object → IsMade r w.written above
      above_made made other = record {
        class = made.class;
        makes = made.makes;
        of_chain = kept_name above (superclasses before made.class)
            (above_there before ready.hierarchy made.class is_candidate.header
            (class_of_folder before made.class is_candidate.header is_candidate.found) (header_of file).name above (header_of file)
            (of_chain before made.class (header_of file).name made.of_chain).there here_class is_above) (apart (bytes_eq above object) refl);
      } where
        is_candidate : IsCandidate r.classes made.class
        is_candidate = candidate (header_of file).name made

        apart : (b : Bool) → bytes_eq above object ≡ b → bytes_eq above object ≡ false
        apart true same = absurd (other ((bytes_eq-Decides above object).0 same))
        apart false same = same

      called_passes : IsMade r w.written (header_of file).name → (pool : Constants) (site : Site) → site.class ≡ (header_of file).name
          → MethodPasses (record { headers = after; pool = pool; site = site }) (FitsCall after INVOKESPECIAL (Some (consts.Methodref 0 0)))
          (called_of r.constructor above)
      called_passes made pool site from = by (bytes_eq above object) refl where
        by : (b : Bool) → bytes_eq above object ≡ b
            → MethodPasses (record { headers = after; pool = pool; site = site }) (FitsCall after INVOKESPECIAL (Some (consts.Methodref 0 0)))
            (called_of r.constructor above)
        by true same = rw (same) (object_passes ((bytes_eq-Decides above object).0 same) pool site from)
        by false other =
            rw (other)
            (constructor_passes above (above_made made (λ same. false≢true (sym other ∙ (bytes_eq-Decides above object).1 same))) pool site 0 0
            (subst (λ (n : Name). IsNamedAccessible after n above) (sym from) may_name))

    -- ---- members of the class

    own_are : own_fields before (header_of file).name ≡ filter (λ (field : Member). not (has field.flags STATIC)) (header_of file).fields
    own_are = rw (here_named) refl

    fields_once : AllByRecursion (λ (field : Member). declared field.name field.desc (header_of file).fields ≡ Some field) (own_fields before (header_of file).name)
    fields_once =
        subst (AllByRecursion (λ (field : Member). declared field.name field.desc (header_of file).fields ≡ Some field)) (sym own_are)
        (all_still (λ (field : Member). declared field.name field.desc (header_of file).fields ≡ Some field)
        (λ (field : Member). not (has field.flags STATIC)) (header_of file).fields
        (each_of (λ (field : Member). declared field.name field.desc (header_of file).fields ≡ Some field) (header_of file).fields
        (λ n field is. declared_itself (header_of file).fields n field
        (fields_distinct file (at_index IsClassFile r.classes.folder number file verified.tree.folder there)) is)))

    field_types_there : AllByRecursion (λ (field : Member). FieldTypeNames (IsThere after) field.desc) (own_fields before (header_of file).name)
    field_types_there =
        subst (AllByRecursion (λ (field : Member). FieldTypeNames (IsThere after) field.desc)) (sym own_are)
        (all_still (λ (field : Member). FieldTypeNames (IsThere after) field.desc) (λ (field : Member). not (has field.flags STATIC)) (header_of file).fields
        (types_there laws.declared r files w verified ready (header_of file) (header_of file).fields
        (first_holds (asked_each (declared_field_checks before (header_of file)) (header_of file).fields)
        (asked_each (declared_method_checks before (header_of file)) (header_of file).methods) declared_there.1)))

    -- All that a field constructor of the class names is there.
    pub linked_members : (above : Name) (s : Scope) → slice_get files number ≡ Some s.class → IsClassWritten r w.written w.s number file s.class
        → s.headers ≡ after
        → IsMade r w.written (header_of file).name
        → (header_of file).super_name ≡ Some above
        → HasLinkedMembers before r.constructor file above s
    linked_members above s is_also is_class headers made is_above = record {
      named = ap (λ (h : Headers). class_named h (header_of file).name) headers ∙ named_now;
      no_array = names_itself (header_of file).name
          (λ array. none-some (header_of file) (sym (ready.hierarchy.no_array (header_of file).name array) ∙ here_class));
      own = own_are;
      once = fields_once;
      types = subst (λ (h : Headers). AllByRecursion (λ (field : Member). FieldTypeNames (IsThere h) field.desc) (own_fields before (header_of file).name))
          (sym headers) field_types_there;
      call = subst (λ (h : Headers). MethodPasses (record { headers = h; pool = s.class.pool; site = site_of (header_of s.class) (method_member s.class.pool s.method) })
          (FitsCall h INVOKESPECIAL (Some (consts.Methodref 0 0))) (called_of r.constructor above)) (sym headers)
          (called_passes above is_above made s.class.pool (site_of (header_of s.class) (method_member s.class.pool s.method)) own_grown.alike.same_name);
    } where
      own_grown : IsGrownHeader (header_of file) (header_of s.class)
      own_grown =
          laws.declared.header file s.class (at_index IsClassFile r.classes.folder number file verified.tree.folder there) (ready.grown number file s.class there is_class)

      known : IsGrownAt before.folder after.folder (header_of file).name (header_of file)
      known = named_grown before.folder after.folder (header_of file).name (header_of file) ready.headers.folder here_named

      same_place : (one other : ℕ) → Some (Folder one) ≡ Some (Folder other) → one ≡ other
      same_place one other e = cc e

      same_number : known.number ≡ number
      same_number =
          same_place known.number number
          (sym (ready.hierarchy.of_place (Folder known.number) (header_of file) known.was).is_place
          ∙ (ready.hierarchy.of_place (Folder number) (header_of file) (slice_get-map header_of r.classes.folder number ∙ ap (option_map header_of) there)).is_place)

      named_now : class_named after (header_of file).name ≡ Some (header_of s.class)
      named_now =
          class_of_folder after (header_of file).name known.twin known.found
          ∙ sym known.is
          ∙ ap (slice_get after.folder) same_number
          ∙ slice_get-map header_of files number
          ∙ ap (option_map header_of) is_also
