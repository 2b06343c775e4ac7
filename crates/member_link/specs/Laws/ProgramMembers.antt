-- Members of a tree's classes, and of its program's.
use Rattle.std.proofs.Common.{◌≡◌, ◌&&◌, not, ℕ, Bool, true, false, cond, List, [], ◌∷◌, map, slice_get, Option, Some, None, is_some, option_map, option_and_then, refl, sym, ap, ◌∙◌}
use Rattle.std.specs.List.{list_any}
use Rattle.std.specs.Option.{option_map_or}
use Rattle.std.proofs.lemmas.Option.{slice_get-map}
use Rattle.class_model.specs.Members.{has, NATIVE}
use Rattle.class_model.specs.MethodCode.{code_of}
use Rattle.class_model.specs.declared.class_file.Attr.{Attr}
use Rattle.class_model.specs.declared.class_file.Attr.TheVariants.{Raw, Code}
use Rattle.class_model.specs.declared.class_file.Method.{Method}
use Rattle.class_model.specs.Header.{header_of, method_member}
use Rattle.class_model.specs.declared.class_file.ClassFile.{ClassFile}
use Rattle.class_model.specs.declared.class_file.MethodAt.{MethodAt}
use Rattle.class_model.specs.declared.header.Header.{Header}
use Rattle.class_model.specs.declared.header.Member.{Member}
use Rattle.class_tree.specs.Headers.{Name, Classes, Headers, class_named, headers_of}
use Rattle.class_tree.specs.Hierarchy.{IsHierarchy}
use Rattle.class_tree.specs.Laws.FirstPlaces.{first_at}
use Rattle.class_tree.specs.Names.{is_member}
use Rattle.class_tree.specs.Order.{header_at, member_place, members_of, place_of}
use Rattle.class_tree.specs.declared.members.MemberKind.{MemberKind}
use Rattle.class_tree.specs.declared.place.Place.{Place}
use Rattle.class_tree.specs.declared.place.Place.TheVariants.{Folder}
use Rattle.member_link.specs.DeclaredMembers.{declared}
use Rattle.member_link.specs.Laws.OwnMembers.{first_declared}
use Rattle.member_link.specs.Machine.Classes.{run_class_of, run_method_of}
use Rattle.member_link.specs.Machine.Codes.{method_code}
use Rattle.member_link.specs.Machine.FieldSteps.{static_number}
use Rattle.member_link.specs.Machine.Programs.{Program, RunClass, RunMethod, code_at, code_run, field_of, first_member, folder_number, method_of, member_of, place_of_method, run_method}
use Rattle.member_link.specs.Scope.{scope_of}
use Rattle.member_link.specs.References.{Reference}
use Rattle.member_link.specs.Inner.QuestionWords.{file_method, is_code, member_run, runs_code}
use Rattle.member_link.specs.TreePrograms.{IsProgram}
use Rattle.member_link.specs.Laws.FirstNumbers.{number_is_place, number_of_mapped}
use Rattle.member_link.specs.Laws.ProgramHeaders.{class_at_number, headers_are, number_by_place}
use Rattle.member_link.specs.Laws.FolderNumbers.{number_at}

-- ---- members of a list

first_is_declared :
    (r : Reference) (members : List Member)
    → first_member r members ≡ declared r.name r.desc members
first_is_declared r [] = refl
first_is_declared r (member ∷ members) = ap (cond (member_of r member) (Some member)) (first_is_declared r members)

pub same_and_then :
    {A B : Type 0} (f g : A → Option B) (o : Option A)
    → ((x : A) → f x ≡ g x)
    → option_and_then f o ≡ option_and_then g o
same_and_then f g None same = refl
same_and_then f g (Some x) same = same x

-- ---- members by the name of their class

module _ (headers : Headers) (hierarchy : IsHierarchy headers) where
  pub class_at_place :
      (class : Name) (place : Place)
      → place_of headers class ≡ Some place
      → header_at headers place ≡ class_named headers class
  class_at_place class place at =
      let stands = hierarchy.placed class place at in
      stands.1.at ∙ sym stands.1.found

  module _ (kind : MemberKind) (name desc : List ℕ) where
    place_in : Option Header → Option ℕ
    place_in found = option_and_then (λ (header : Header). member_place name desc (members_of kind header)) found

    none_in :
        (found : Option Header)
        → None ≡ option_and_then (λ (header : Header). member_place name desc (members_of kind header)) found
        → None ≡ option_and_then (λ (header : Header). declared name desc (members_of kind header)) found
    none_in None none = refl
    none_in (Some header) none =
        ap (option_and_then (slice_get (members_of kind header))) none ∙ sym (first_declared name desc (members_of kind header))

    one_in :
        (found : Option Header) (header : Header) (number : ℕ)
        → Some header ≡ found
        → Some number ≡ option_and_then (λ (header : Header). member_place name desc (members_of kind header)) found
        → slice_get (members_of kind header) number
        ≡ option_and_then (λ (header : Header). declared name desc (members_of kind header)) found
    one_in None header number is at = absurd cc
    one_in (Some first) header number is at =
        let same : header ≡ first = cc in
        ap (λ (h : Header). slice_get (members_of kind h) number) same
        ∙ ap (option_and_then (slice_get (members_of kind first))) at
        ∙ sym (first_declared name desc (members_of kind first))

    pub no_class_no_member :
        (class : Name)
        → None ≡ place_of headers class
        → None
        ≡ option_and_then (λ (header : Header). declared name desc (members_of kind header)) (class_named headers class)
    no_class_no_member class none = sym (ap (option_and_then (λ (header : Header). declared name desc (members_of kind header))) (hierarchy.absent class (sym none)))

    pub no_place_no_member :
        (class : Name) (place : Place)
        → Some place ≡ place_of headers class
        → None ≡ option_and_then (λ (header : Header). member_place name desc (members_of kind header)) (header_at headers place)
        → None
        ≡ option_and_then (λ (header : Header). declared name desc (members_of kind header)) (class_named headers class)
    no_place_no_member class place at none =
        none_in (class_named headers class) (none ∙ ap (option_and_then (λ (header : Header). member_place name desc (members_of kind header))) (class_at_place class place (sym at)))

    pub no_header_no_member :
        (class : Name) (place : Place)
        → Some place ≡ place_of headers class
        → None ≡ header_at headers place
        → None
        ≡ option_and_then (λ (header : Header). declared name desc (members_of kind header)) (class_named headers class)
    no_header_no_member class place at none =
        ap (option_and_then (λ (header : Header). declared name desc (members_of kind header))) (none ∙ class_at_place class place (sym at))

    pub member_at_place :
        (class : Name) (place : Place) (header : Header) (number : ℕ)
        → Some place ≡ place_of headers class
        → Some header ≡ header_at headers place
        → Some number ≡ option_and_then (λ (header : Header). member_place name desc (members_of kind header)) (header_at headers place)
        → slice_get (members_of kind header) number
        ≡ option_and_then (λ (header : Header). declared name desc (members_of kind header)) (class_named headers class)
    member_at_place class place header number at is stands =
        one_in (header_at headers place) header number is stands
        ∙ ap (option_and_then (λ (header : Header). declared name desc (members_of kind header))) (class_at_place class place (sym at))

-- ---- members of a program

module _ (classes : Classes) (P : Program) (is : IsProgram classes P) where
  pub field_is :
      (r : Reference)
      → option_and_then (λ (header : Header). declared r.name r.desc header.fields) (class_named (headers_of classes) r.class)
      ≡ field_of P r
  field_is r =
      same_and_then (λ (header : Header). declared r.name r.desc header.fields) (λ (header : Header). first_member r header.fields)
      (class_named (headers_of classes) r.class) (λ header. sym (first_is_declared r header.fields))
      ∙ ap (λ (headers : Headers). option_and_then (λ (header : Header). first_member r header.fields) (class_named headers r.class)) (sym (headers_are classes P is))

  pub method_is :
      (r : Reference)
      → option_and_then (λ (header : Header). declared r.name r.desc header.methods) (class_named (headers_of classes) r.class)
      ≡ method_of P r
  method_is r =
      same_and_then (λ (header : Header). declared r.name r.desc header.methods) (λ (header : Header). first_member r header.methods)
      (class_named (headers_of classes) r.class) (λ header. sym (first_is_declared r header.methods))
      ∙ ap (λ (headers : Headers). option_and_then (λ (header : Header). first_member r header.methods) (class_named headers r.class)) (sym (headers_are classes P is))

  -- ---- the number of a field

  static_in :
      (field : Reference) (class : ℕ) (found : Option RunClass)
      → slice_get P.classes class ≡ found
      → option_and_then (λ (header : Header). member_place field.name field.desc header.fields) (option_map (λ (class : RunClass). class.header) found)
      ≡ static_number P class field
  static_in field class None at = rw at refl
  static_in field class (Some found) at = rw at (sym (number_is_place (member_of field) found.header.fields))

  pub static_is :
      (class : ℕ) (field : Reference)
      → option_and_then (λ (header : Header). member_place field.name field.desc header.fields) (slice_get (headers_of classes).folder class)
      ≡ static_number P class field
  static_is class field =
      ap (option_and_then (λ (header : Header). member_place field.name field.desc header.fields)) (sym (class_at_number classes P is class))
      ∙ static_in field class (slice_get P.classes class) refl

  -- ---- the place of a method

  pub run_class_at :
      (number : ℕ)
      → slice_get P.classes number
      ≡ option_map (run_class_of is.links (headers_of classes)) (slice_get classes.folder number)
  run_class_at number =
      ap (λ (p : Program). slice_get p.classes number) is.same
      ∙ slice_get-map (run_class_of is.links (headers_of classes)) classes.folder number

  -- the class is none of the folder
  pub no_method_place :
      (r : Reference) (place : Option Place)
      → place_of (headers_of classes) r.class ≡ place
      → number_at place ≡ None
      → None ≡ place_of_method P r
  no_method_place r place at none = rw (sym (number_by_place classes P is r.class place at) ∙ none) refl

  in_file :
      (r : Reference) (class : ℕ) (found : Option ClassFile)
      → folder_number P r.class ≡ Some class
      → slice_get P.classes class ≡ option_map (run_class_of is.links (headers_of classes)) found
      → option_map (λ (method : ℕ). let at : MethodAt = record { class = class; method = method } in at)
      (option_and_then (λ (header : Header). member_place r.name r.desc header.methods) (option_map header_of found))
      ≡ place_of_method P r
  in_file r class None number at = rw (number, at) refl
  in_file r class (Some file) number at =
      rw (number, at)
      (ap (option_map (λ (method : ℕ). let at : MethodAt = record { class = class; method = method } in at))
      (sym (number_is_place (member_of r) (map (method_member file.pool) file.methods))
      ∙ sym (number_of_mapped (member_of r) (method_member file.pool) file.methods)
      ∙ number_of_mapped (λ (method : RunMethod). member_of r method.member) (run_method_of is.links (headers_of classes) file) file.methods))

  -- the class is one of the folder
  pub method_place :
      (r : Reference) (class : ℕ) (number : Option ℕ)
      → place_of (headers_of classes) r.class ≡ Some (Folder class)
      → number ≡ option_and_then (λ (header : Header). member_place r.name r.desc header.methods) (slice_get (headers_of classes).folder class)
      → option_map (λ (method : ℕ). let at : MethodAt = record { class = class; method = method } in at) number ≡ place_of_method P r
  method_place r class number at is_number =
      ap (option_map (λ (method : ℕ). let at : MethodAt = record { class = class; method = method } in at)) (is_number ∙ ap (option_and_then (λ (header : Header). member_place r.name r.desc header.methods)) (slice_get-map header_of classes.folder class))
      ∙ in_file r class (slice_get classes.folder class) (sym (number_by_place classes P is r.class (Some (Folder class)) at)) (run_class_at class)

  -- ---- which methods have code

  code_mapped :
      {A B C : Type 0} (f : B → C) (g : A → B) (o : Option A)
      → is_some o ≡ is_some (option_map f (option_map g o))
  code_mapped f g None = refl
  code_mapped f g (Some x) = refl

  code_listed : (attrs : List Attr) → list_any is_code attrs ≡ is_some (code_of attrs)
  code_listed [] = refl
  code_listed (Code name part ∷ attrs) = refl
  code_listed (Raw name bytes ∷ attrs) = code_listed attrs

  of_method :
      (file : ClassFile) (found : Option Method)
      → option_map_or runs_code found false
      ≡ is_some (option_and_then code_run (option_map (run_method_of is.links (headers_of classes) file) found))
  of_method file None = refl
  of_method file (Some method) = by (has method.flags NATIVE)
    where
      by :
          (native : Bool)
          → (not native && list_any is_code method.attrs)
          ≡ is_some (cond native None (option_map (method_code is.links) (scope_of (headers_of classes) file method)))
      by true = refl
      by false = code_listed method.attrs ∙ code_mapped (method_code is.links) _ (code_of method.attrs)

  in_code :
      (at : MethodAt) (found : Option ClassFile)
      → slice_get P.classes at.class ≡ option_map (run_class_of is.links (headers_of classes)) found
      → option_map_or runs_code (option_and_then (λ (class : ClassFile). slice_get class.methods at.method) found) false
      ≡ is_some (code_at P at)
  in_code at None class = rw class refl
  in_code at (Some file) class =
      rw class
      (of_method file (slice_get file.methods at.method)
      ∙ ap (λ (method : Option RunMethod). is_some (option_and_then code_run method)) (sym (slice_get-map (run_method_of is.links (headers_of classes) file) file.methods at.method)))

  pub code_is :
      (at : MethodAt) (found : Option Method)
      → found ≡ file_method classes at
      → option_map_or runs_code found false ≡ is_some (code_at P at)
  code_is at found same =
      ap (λ (method : Option Method). option_map_or runs_code method false) same
      ∙ in_code at (slice_get classes.folder at.class) (run_class_at at.class)

  -- ---- the members that methods are

  mapped_member :
      (file : ClassFile) (found : Option Method)
      → option_map (method_member file.pool) found
      ≡ option_map member_run (option_map (run_method_of is.links (headers_of classes) file) found)
  mapped_member file None = refl
  mapped_member file (Some method) = refl

  in_member :
      (at : MethodAt) (found : Option ClassFile)
      → slice_get P.classes at.class ≡ option_map (run_class_of is.links (headers_of classes)) found
      → option_and_then (λ (header : Header). slice_get header.methods at.method) (option_map header_of found)
      ≡ option_map member_run (run_method P at)
  in_member at None class = rw class refl
  in_member at (Some file) class =
      rw class
      (slice_get-map (method_member file.pool) file.methods at.method
      ∙ mapped_member file (slice_get file.methods at.method)
      ∙ ap (option_map member_run) (sym (slice_get-map (run_method_of is.links (headers_of classes) file) file.methods at.method)))

  pub member_is :
      (at : MethodAt)
      → option_and_then (λ (header : Header). slice_get header.methods at.method) (slice_get (headers_of classes).folder at.class)
      ≡ option_map member_run (run_method P at)
  member_is at =
      ap (option_and_then (λ (header : Header). slice_get header.methods at.method)) (slice_get-map header_of classes.folder at.class)
      ∙ in_member at (slice_get classes.folder at.class) (run_class_at at.class)
