-- The field constructors of the second program are found, have the parameters of their classes' fields, and store each field into its place.
use Rattle.std.proofs.Common.{◌≡◌, ◌≢◌, ◌≤◌, ◌⊎◌, inl, inr, ◌+◌, ◌++◌, not, ℕ, zero, suc, Bool, true, false, List, [], ◌∷◌, bytes_eq, codes, filter, length, map, replicate, slice_get, Option, Some, None, is_some, option_and_then, option_map, IfSome, IsTrue, refl, sym, ap, subst, ◌∙◌, arith}
use Rattle.std.specs.List.{list_any}
use Rattle.std.proofs.lemmas.Bool.{false≢true, not-true}
use Rattle.std.proofs.lemmas.List.{map-append}
use Rattle.std.proofs.lemmas.List.Sums.{sum_by-append}
use Rattle.std.proofs.lemmas.Option.{none-some, same_Some, slice_get-map}
use Rattle.std.proofs.lemmas.Slice.Eq.{bytes_eq-Decides}
use Rattle.class_model.specs.Characters.{boolean_letter, left_bracket}
use Rattle.class_model.specs.Descriptors.{kind_of, parameter_units, parameters_of, type_of, units_of}
use Rattle.class_model.specs.Header.{header_of}
use Rattle.class_model.specs.Laws.Lists.{at_index}
use Rattle.class_model.specs.Members.{STATIC, has}
use Rattle.class_model.specs.Names.{init}
use Rattle.class_model.specs.declared.class_file.ClassFile.{ClassFile}
use Rattle.class_model.specs.declared.descriptor.FieldType.{FieldType}
use Rattle.class_model.specs.declared.descriptor.FieldType.TheVariants.{Named}
use Rattle.class_model.specs.declared.header.Header.{Header}
use Rattle.class_model.specs.declared.header.Member.{Member}
use Rattle.class_tree.specs.Headers.{IsClassFile, Name, Headers, class_named, headers_of, named}
use Rattle.class_tree.specs.Hierarchy.{IsHierarchy}
use Rattle.class_tree.specs.Laws.Above.{above_is_there, below_more, class_decides, class_is_subtype, hierarchy_is_rooted, hierarchy_is_sound, object_no_superclass, there_is_no_array}
use Rattle.class_tree.specs.Laws.Headers.{class_there, same_class}
use Rattle.class_tree.specs.Laws.Names.{one_of_first}
use Rattle.class_tree.specs.Layouts.{instance_fields, own_fields, superclasses}
use Rattle.class_tree.specs.Names.{object}
use Rattle.class_tree.specs.Order.{first_place}
use Rattle.class_tree.specs.Steps.{HasOneConstructor}
use Rattle.class_tree.specs.Subtype.{IsArray, IsBelow, IsDirectlyBelow, directly, superclass}
use Rattle.class_tree.specs.declared.place.Place.TheVariants.{Folder}
use Rattle.expanded_code.specs.Laws.SuperChains.{has_superclass, of_each_class, superclasses_is, superclasses_of_root}
use Rattle.member_link.specs.DeclaredMembers.{Declared, declared, declared_by}
use Rattle.member_link.specs.FieldConstructors.{field_types}
use Rattle.member_link.specs.Fields.{FindsFirst, above_class, absent_class, in_class, in_other_class}
use Rattle.member_link.specs.Laws.FirstNumbers.{number_is_place, number_of_mapped}
use Rattle.member_link.specs.Laws.FolderClasses.{class_of_folder, found_in_folder}
use Rattle.member_link.specs.Laws.FolderNumbers.{number_at, number_of_place}
use Rattle.member_link.specs.Laws.ProgramHeaders.{folder_headers}
use Rattle.member_link.specs.Machine.Classes.{program_of, run_class_of, run_method_of}
use Rattle.member_link.specs.Machine.Layouts.{slot_number, slot_number_in}
use Rattle.member_link.specs.Machine.Links.{IsLink, reference_to}
use Rattle.member_link.specs.Machine.Programs.{RunClass, RunMethod, field_of, first_member, folder_number, has_flag, header_named, headers_in, member_of, method_of, name_of_class, number_of_first}
use Rattle.member_link.specs.Machine.Replaced.{map_numbered, method_replaced, replaced_class}
use Rattle.member_link.specs.References.{Reference}
use Rattle.plan_flow.specs.Written.WrittenPrograms.{constructor_method}
use Rattle.same_runs.specs.Laws.Numbered.{replaced_at}
use Rattle.same_runs.specs.Laws.FlatPrograms.{members_of_class}
use Rattle.same_runs.specs.Laws.Layouts.{same_slot}
use Rattle.same_runs.specs.Laws.Methods.{is_method}
use Rattle.same_runs.specs.Laws.Programs.{same_number, same_static_field}
use Rattle.same_runs.specs.Laws.ReplacedPrograms.{members_same}
use Rattle.same_runs.specs.SamePrograms.{SamePrograms}
use Rattle.written_runs.specs.Inner.Setup.{IsSetup, Setup, second}
use Rattle.written_runs.specs.Laws.AddedConstructors.{AddsToCandidates, HasFree, IsAddedTo, added_to, has_free, of_chain, own_second_same}
use Rattle.written_runs.specs.Laws.AddedMethods.{FindsLast, class_replaced, finds_last, first_of_last, member_itself}
use Rattle.written_runs.specs.Laws.ApartFields.{AreDistinct, declared_itself, distinct_still, fields_distinct}
use Rattle.written_runs.specs.Laws.ConstructorTexts.{ReadsParameters, parameters_are}
use Rattle.written_runs.specs.Laws.Constructs.{Constructs, KnowsEach, constructs_by, fields_above_and_own, object_without_fields}
use Rattle.written_runs.specs.Laws.FieldConstructors.{HasSlot, HasSlots, IsBelowObject, IsConstructor, reference_of_constructor}
use Rattle.written_runs.specs.Laws.FolderFacts.{HasInitialiser, has_initialiser, no_folder_object, not_object, object_has}
use Rattle.written_runs.specs.Laws.GivenValues.{types_of}
use Rattle.written_runs.specs.Laws.LessVirtual.{WasIn, was_in}
use Rattle.written_runs.specs.Laws.UpperSlots.{slot_number_is}

-- ---- units of fields

-- a class above has no more units of fields
pub fewer_units : (headers : Headers) → IsHierarchy headers → (class : Name) (header : Header) → class_named headers class ≡ Some header
    → (name : Name) → IsTrue (list_any (bytes_eq name) (superclasses headers class))
    → parameter_units (field_types headers name) ≤ parameter_units (field_types headers class)
fewer_units headers hierarchy class header is =
    of_each_class headers hierarchy (λ (low : Name). (name : Name) → IsTrue (list_any (bytes_eq name) (superclasses headers low))
    → parameter_units (field_types headers name) ≤ parameter_units (field_types headers low)) top step class header is where
      same_units : (one other : Name) → one ≡ other → parameter_units (field_types headers other) ≤ parameter_units (field_types headers one)
      same_units one other same =
          let equal = ap (λ (n : Name). parameter_units (field_types headers n)) same in omega (arith, equal)

      top : (top_header : Header) → class_named headers object ≡ Some top_header → (name : Name)
          → IsTrue (list_any (bytes_eq name) (superclasses headers object))
          → parameter_units (field_types headers name) ≤ parameter_units (field_types headers object)
      top top_header there name one =
          elim (one_of_first object [] name (subst (λ (names : List Name). IsTrue (list_any (bytes_eq name) names))
          (superclasses_of_root headers hierarchy object top_header there
          (object_no_superclass headers (hierarchy_is_sound headers hierarchy) (hierarchy_is_rooted headers hierarchy) top_header there)) one)) [
            | inl same ↦ same_units object name same
            | inr none ↦ absurd (false≢true none)
          ]

      step : (low above : Name) (low_header : Header) → class_named headers low ≡ Some low_header → low ≢ object → low_header.super_name ≡ Some above
          → ((name : Name) → IsTrue (list_any (bytes_eq name) (superclasses headers above))
          → parameter_units (field_types headers name) ≤ parameter_units (field_types headers above))
          → (name : Name) → IsTrue (list_any (bytes_eq name) (superclasses headers low))
          → parameter_units (field_types headers name) ≤ parameter_units (field_types headers low)
      step low above low_header there differ some rest name one =
          elim (one_of_first low (superclasses headers above) name (subst (λ (names : List Name). IsTrue (list_any (bytes_eq name) names))
          (superclasses_is headers hierarchy low low_header there above some) one)) [
            | inl same ↦ same_units low name same
            | inr later ↦
                let higher = rest name later in
                let all : parameter_units (field_types headers low)
                ≡ parameter_units (field_types headers above) + parameter_units (types_of (own_fields headers low)) =
                ap (λ (fields : List Member). parameter_units (types_of fields)) (fields_above_and_own headers hierarchy low low_header there above some)
                ∙ ap parameter_units (map-append (λ (field : Member). type_of field.desc) (instance_fields headers above) (own_fields headers low))
                ∙ sum_by-append (λ (type : FieldType). units_of (kind_of type)) (field_types headers above) (types_of (own_fields headers low)) in
                omega (arith, higher, all)
          ]

-- ---- lists

named_by_number : (name : Name) (classes : List RunClass) (number : ℕ) (class : RunClass)
    → number_of_first (λ (c : RunClass). bytes_eq name c.header.name) classes ≡ Some number
    → slice_get classes number ≡ Some class
    → named name (map (λ (c : RunClass). c.header) classes) ≡ Some class.header
named_by_number name [] number class found is = absurd (none-some class is)
named_by_number name (first ∷ classes) number class found is =
    by (bytes_eq name first.header.name) refl (number_of_first (λ (c : RunClass). bytes_eq name c.header.name) classes) refl
    (λ n. named_by_number name classes n class) where
      by : (b : Bool) → bytes_eq name first.header.name ≡ b → (later : Option ℕ)
          → number_of_first (λ (c : RunClass). bytes_eq name c.header.name) classes ≡ later
          → ((n : ℕ) → number_of_first (λ (c : RunClass). bytes_eq name c.header.name) classes ≡ Some n → slice_get classes n ≡ Some class
          → named name (map (λ (c : RunClass). c.header) classes) ≡ Some class.header)
          → named name (map (λ (c : RunClass). c.header) (first ∷ classes)) ≡ Some class.header
      by true e later e_later rest =
          let here : Some zero ≡ Some number = sym (rw (e) refl) ∙ found in
          let same : first ≡ class = same_Some first class (ap (slice_get (first ∷ classes)) (same_Some zero number here) ∙ is) in
          rw (e) (ap (λ (c : RunClass). Some c.header) same)
      by false e None e_later rest =
          let none : Some number ≡ None = sym found ∙ (rw (e, e_later) refl) in
          absurd (none-some number (sym none))
      by false e (Some n) e_later rest =
          let here : Some (suc n) ≡ Some number = sym (rw (e, e_later) refl) ∙ found in
          rw (e) (rest n e_later (ap (slice_get (first ∷ classes)) (same_Some (suc n) number here) ∙ is))

none_named : (name : Name) (classes : List RunClass) → number_of_first (λ (c : RunClass). bytes_eq name c.header.name) classes ≡ None
    → named name (map (λ (c : RunClass). c.header) classes) ≡ None
none_named name [] none = refl
none_named name (first ∷ classes) none =
    by (bytes_eq name first.header.name) refl (number_of_first (λ (c : RunClass). bytes_eq name c.header.name) classes) refl (none_named name classes) where
      by : (b : Bool) → bytes_eq name first.header.name ≡ b → (later : Option ℕ)
          → number_of_first (λ (c : RunClass). bytes_eq name c.header.name) classes ≡ later
          → (number_of_first (λ (c : RunClass). bytes_eq name c.header.name) classes ≡ None → named name (map (λ (c : RunClass). c.header) classes) ≡ None)
          → named name (map (λ (c : RunClass). c.header) (first ∷ classes)) ≡ None
      by true e later e_later rest = absurd (none-some zero (sym none ∙ rw (e) refl))
      by false e None e_later rest = rw (e) (rest e_later)
      by false e (Some n) e_later rest = absurd (none-some (suc n) (sym none ∙ rw (e, e_later) refl))

no_number_of : (name : Name) (list : List Header) → named name list ≡ None → number_of_first (λ (header : Header). bytes_eq name header.name) list ≡ None
no_number_of name [] none = refl
no_number_of name (first ∷ list) none = by (bytes_eq name first.name) refl (no_number_of name list) where
  by : (b : Bool) → bytes_eq name first.name ≡ b
      → (named name list ≡ None → number_of_first (λ (header : Header). bytes_eq name header.name) list ≡ None)
      → number_of_first (λ (header : Header). bytes_eq name header.name) (first ∷ list) ≡ None
  by true e rest = absurd (none-some first (sym none ∙ rw (e) refl))
  by false e rest = let later = rest (sym (rw (e) refl) ∙ none) in rw (e, later) refl

-- a class that is not in a first list is sought in the second
named_behind : (name : Name) (front back : List Header) → named name front ≡ None → named name (front ++ back) ≡ named name back
named_behind name [] back none = refl
named_behind name (first ∷ front) back none = by (bytes_eq name first.name) refl (named_behind name front back) where
  by : (b : Bool) → bytes_eq name first.name ≡ b → (named name front ≡ None → named name (front ++ back) ≡ named name back)
      → named name (first ∷ (front ++ back)) ≡ named name back
  by true e rest = absurd (none-some first (sym none ∙ rw (e) refl))
  by false e rest = rw (e) (rest (sym (rw (e) refl) ∙ none))

-- the first member of a reference is the one that is declared
first_declared : (r : Reference) (members : List Member) → first_member r members ≡ declared r.name r.desc members
first_declared r [] = refl
first_declared r (member ∷ members) = by (member_of r member) refl (first_declared r members) where
  by : (b : Bool) → member_of r member ≡ b → first_member r members ≡ declared r.name r.desc members
      → first_member r (member ∷ members) ≡ declared r.name r.desc (member ∷ members)
  by true e rest = rw (e) refl
  by false e rest = rw (e) rest

none_numbered : (r : Reference) (methods : List RunMethod) → first_member r (map (λ (m : RunMethod). m.member) methods) ≡ None
    → number_of_first (is_method r) methods ≡ None
none_numbered r [] none = refl
none_numbered r (method ∷ methods) none = by (member_of r method.member) refl (none_numbered r methods) where
  by : (b : Bool) → member_of r method.member ≡ b
      → (first_member r (map (λ (m : RunMethod). m.member) methods) ≡ None → number_of_first (is_method r) methods ≡ None)
      → number_of_first (is_method r) (method ∷ methods) ≡ None
  by true e rest = absurd (none-some method.member (sym none ∙ rw (e) refl))
  by false e rest = let later = rest (sym (rw (e) refl) ∙ none) in rw (e, later) refl

-- the look-up of a field that a class declares finds it
finds_own : {headers : Headers} {name desc : List ℕ} {class : Name} {classes : List Name} {found : Option Declared} (header : Header) (member : Member)
    → FindsFirst headers name desc (class ∷ classes) found
    → class_named headers class ≡ Some header
    → declared name desc header.fields ≡ Some member
    → found ≡ Some (declared_by class member)
finds_own {headers = headers} {name = name} {desc = desc} header member (in_class class classes own it is has_it) here declares =
    let same = same_class headers class own header is here in
    ap (λ (m : Member). Some (declared_by class m))
    (same_Some it member (sym has_it ∙ ap (λ (h : Header). declared name desc h.fields) same ∙ declares))
finds_own {headers = headers} {name = name} {desc = desc} header member (above_class class classes own field is none above) here declares =
    absurd (none-some member (sym none ∙ ap (λ (h : Header). declared name desc h.fields) (same_class headers class own header is here) ∙ declares))
finds_own {headers = headers} {name = name} {desc = desc} header member (in_other_class class classes own found is none above others) here declares =
    absurd (none-some member (sym none ∙ ap (λ (h : Header). declared name desc h.fields) (same_class headers class own header is here) ∙ declares))
finds_own header member (absent_class class classes found absent others) here declares = absurd (none-some header (sym absent ∙ here))

module _ (u : Setup) (setup : IsSetup u) (hierarchy : IsHierarchy (headers_of u.classes)) (adds : AddsToCandidates u)
    (reads : ReadsParameters) where
  abbrev headers : Headers
  headers = headers_of u.classes

  same : SamePrograms (program_of u.classes u.links) (second u)
  same = own_second_same u setup hierarchy adds

  pub own_headers : headers_in (program_of u.classes u.links) ≡ headers_of u.classes
  own_headers =
      ap (λ (folder : List Header). let all : Headers = record { folder = folder; library = u.classes.library } in all)
      (folder_headers u.links (headers_of u.classes) u.classes.folder)

  -- ---- a class file

  header_at : (number : ℕ) (file : ClassFile) → slice_get u.classes.folder number ≡ Some file
      → slice_get (headers_of u.classes).folder number ≡ Some (header_of file)
  header_at number file is = slice_get-map header_of u.classes.folder number ∙ ap (option_map header_of) is

  in_folder : (number : ℕ) (file : ClassFile) → slice_get u.classes.folder number ≡ Some file
      → named (header_of file).name (headers_of u.classes).folder ≡ Some (header_of file)
  in_folder number file is = found_in_folder (headers_of u.classes) hierarchy number (header_of file) (header_at number file is)

  class_is : (number : ℕ) (file : ClassFile) → slice_get u.classes.folder number ≡ Some file
      → class_named (headers_of u.classes) (header_of file).name ≡ Some (header_of file)
  class_is number file is = class_of_folder (headers_of u.classes) (header_of file).name (header_of file) (in_folder number file is)

  own_number : (number : ℕ) (file : ClassFile) → slice_get u.classes.folder number ≡ Some file
      → folder_number (program_of u.classes u.links) (header_of file).name ≡ Some number
  own_number number file is =
      number_of_mapped (λ (header : Header). bytes_eq (header_of file).name header.name) (λ (class : RunClass). class.header)
      (map (run_class_of u.links (headers_of u.classes)) u.classes.folder)
      ∙ number_is_place (λ (header : Header). bytes_eq (header_of file).name header.name)
      (map (λ (class : RunClass). class.header) (map (run_class_of u.links (headers_of u.classes)) u.classes.folder))
      ∙ ap (first_place (λ (header : Header). bytes_eq (header_of file).name header.name))
      (folder_headers u.links (headers_of u.classes) u.classes.folder)
      ∙ sym (number_of_place (headers_of u.classes) (header_of file).name)
      ∙ ap number_at (hierarchy.of_place (Folder number) (header_of file) (header_at number file is)).is_place

  pub second_number : (number : ℕ) (file : ClassFile) → slice_get u.classes.folder number ≡ Some file
      → folder_number (second u) (header_of file).name ≡ Some number
  second_number number file is = same_number same (header_of file).name ∙ own_number number file is

  abbrev second_class : ℕ → ClassFile → RunClass
  second_class number file = replaced_class u.s number (run_class_of u.links (headers_of u.classes) file)

  second_header : (number : ℕ) (file : ClassFile) → slice_get u.classes.folder number ≡ Some file
      → header_named (second u) (header_of file).name ≡ Some (second_class number file).header
  second_header number file is =
      class_of_folder (headers_in (second u)) (header_of file).name (second_class number file).header
      (named_by_number (header_of file).name (second u).classes number (second_class number file) (second_number number file is)
      (class_replaced u.classes u.links u.s number file is))

  -- ---- its field constructor

  module _ (number : ℕ) (file : ClassFile) (is_file : slice_get u.classes.folder number ≡ Some file)
      (added : u.s.added number ≡ constructor_method u.classes u.links u.constructor file ∷ []) where
    abbrev name : Name
    name = (header_of file).name

    abbrev constructor : RunMethod
    constructor = constructor_method u.classes u.links u.constructor file

    abbrev wanted : Reference
    wanted = reference_of_constructor u.constructor (header_of file).name

    to : IsAddedTo u setup hierarchy adds file
    to = added_to u setup hierarchy adds number file is_file added

    free : HasFree u setup hierarchy adds file
    free = has_free u setup hierarchy adds file to

    none_first : first_member wanted (header_of file).methods ≡ None
    none_first = first_declared wanted (header_of file).methods ∙ free.undeclared

    found : method_of (second u) wanted ≡ Some constructor.member
    found =
        ap (option_and_then (λ (header : Header). first_member wanted header.methods)) (second_header number file is_file)
        ∙ ap (λ (more : List RunMethod). first_member wanted ((header_of file).methods ++ map (λ (m : RunMethod). m.member) more)) added
        ∙ first_of_last wanted (header_of file).methods constructor.member none_first (member_itself (header_of file).name constructor.member)

    abbrev olds : List RunMethod
    olds = map_numbered (method_replaced u.s number) zero (map (run_method_of u.links (headers_of u.classes) file) file.methods)

    olds_are : map (λ (m : RunMethod). m.member) olds ≡ (header_of file).methods
    olds_are =
        members_same u.s number zero (map (run_method_of u.links (headers_of u.classes) file) file.methods)
        ∙ members_of_class u.links (headers_of u.classes) file file.methods

    last_found : FindsLast (second u) wanted (record { class = number; method = length olds }) constructor
    last_found =
        finds_last (second u) wanted number (second_class number file) olds constructor (second_number number file is_file)
        (class_replaced u.classes u.links u.s number file is_file) (ap (λ (more : List RunMethod). olds ++ more) added)
        (none_numbered wanted olds (ap (first_member wanted) olds_are ∙ none_first)) (member_itself (header_of file).name constructor.member)

    -- ---- its class

    not_top : (header_of file).name ≢ object
    not_top same_name =
        false≢true (sym to.no_object ∙ (bytes_eq-Decides (header_of file).name object).1 same_name)

    above : (n : Name) × ((header_of file).super_name ≡ Some n)
    above = has_superclass (headers_of u.classes) hierarchy (header_of file).name (header_of file) to.named_class not_top

    fields_are : own_fields (headers_of u.classes) (header_of file).name
        ≡ filter (λ (field : Member). not (has field.flags STATIC)) (header_of file).fields
    fields_are = rw (in_folder number file is_file) refl

    distinct : AreDistinct (header_of file).fields
    distinct = fields_distinct file (at_index IsClassFile u.classes.folder number file setup.tree.folder is_file)

    own_distinct : AreDistinct (own_fields (headers_of u.classes) (header_of file).name)
    own_distinct =
        subst AreDistinct (sym fields_are) (distinct_still (λ (field : Member). not (has field.flags STATIC)) (header_of file).fields distinct)

    module _ (shape : ℕ) (low : Name) (low_is : name_of_class (second u) shape ≡ low)
        (low_header : Header) (low_named : class_named (headers_of u.classes) low ≡ Some low_header)
        (up : (low ≡ (header_of file).name) ⊎ IsBelow (headers_of u.classes) low (header_of file).name) where
      has_slot : (place : ℕ) (field : Member) → slice_get (own_fields (headers_of u.classes) (header_of file).name) place ≡ Some field
          → HasSlot (second u) shape (header_of file).name (length (instance_fields (headers_of u.classes) above.0) + place) field
      has_slot place field is_field = record {
        finds = link.same ∙ ap (option_map reference_to) (finds_own (header_of file) field link.finds to.named_class declares);
        no_static = same_static_field same (record { class = (header_of file).name; name = field.name; desc = field.desc })
            ∙ ap (λ (m : Option Member). has_flag m STATIC) own_field ∙ not-true (has field.flags STATIC) was.passes;
        slot =
            ap (λ (n : Name). slot_number (second u) n (record { class = (header_of file).name; name = field.name; desc = field.desc })) low_is
            ∙ same_slot same low (record { class = (header_of file).name; name = field.name; desc = field.desc })
            ∙ ap (λ (all : Headers). slot_number_in all low (record { class = (header_of file).name; name = field.name; desc = field.desc })) own_headers
            ∙ slot_number_is (headers_of u.classes) hierarchy (header_of file).name (header_of file) above.0 to.named_class above.1 to.no_interface
            own_distinct place field is_field low up low_header low_named;
      } where
        was : WasIn (λ (one : Member). not (has one.flags STATIC)) (header_of file).fields field
        was =
            was_in (λ (one : Member). not (has one.flags STATIC)) (header_of file).fields place field
            (ap (λ (fields : List Member). slice_get fields place) (sym fields_are) ∙ is_field)

        declares : declared field.name field.desc (header_of file).fields ≡ Some field
        declares = declared_itself (header_of file).fields was.number field distinct was.is_there

        link : IsLink (FindsFirst (headers_of u.classes) field.name field.desc ((header_of file).name ∷ []))
            (u.links.field (record { class = (header_of file).name; name = field.name; desc = field.desc }))
        link = setup.linked.field (record { class = (header_of file).name; name = field.name; desc = field.desc })

        own_field : field_of (program_of u.classes u.links) (record { class = (header_of file).name; name = field.name; desc = field.desc }) ≡ Some field
        own_field =
            ap (λ (all : Headers). option_and_then
            (λ (header : Header). first_member (record { class = (header_of file).name; name = field.name; desc = field.desc }) header.fields)
            (class_named all (header_of file).name)) own_headers
            ∙ ap (option_and_then
            (λ (header : Header). first_member (record { class = (header_of file).name; name = field.name; desc = field.desc }) header.fields))
            to.named_class
            ∙ first_declared (record { class = (header_of file).name; name = field.name; desc = field.desc }) (header_of file).fields ∙ declares

      slots_by : (fields : List Member) (start : ℕ)
          → ((place : ℕ) (field : Member) → slice_get fields place ≡ Some field
          → HasSlot (second u) shape (header_of file).name (start + place) field)
          → HasSlots (second u) shape (header_of file).name start fields
      slots_by [] start each = tt
      slots_by (field ∷ fields) start each = (
        let zeroth : start + 0 ≡ start = omega arith in
            subst (λ (n : ℕ). HasSlot (second u) shape (header_of file).name n field) zeroth (each 0 field refl),
        slots_by fields (start + 1) (λ place one is.
            let next : start + suc place ≡ start + 1 + place = omega arith in
            subst (λ (n : ℕ). HasSlot (second u) shape (header_of file).name n one) next (each (suc place) one is)),
      )

      pub is_constructor : (second u).links.below (name_of_class (second u) shape) (header_of file).name ≡ true
          → IsConstructor (second u) u.classes u.links u.constructor shape file
      is_constructor below = record {
        found = found;
        at = record { class = number; method = length olds };
        is_place = last_found.is_place;
        is_method = last_found.is_method;
        last = Named (replicate free.dimensions left_bracket ++ boolean_letter ∷ []);
        last_reference = refl;
        parameters = ap parameters_of free.is
            ∙ parameters_are u.classes setup.tree reads (header_of file).name free.dimensions free.has.some
            (let few = free.has.few in omega (arith, few)) narrow;
        conforms = below;
        number = number;
        of_folder = second_number number file is_file;
        no_object = to.no_object;
        above = above.0;
        has_above = rw (to.named_class) above.1;
        fields = fields_above_and_own (headers_of u.classes) hierarchy (header_of file).name (header_of file) to.named_class above.0 above.1;
        own = slots_by (own_fields (headers_of u.classes) (header_of file).name) (length (instance_fields (headers_of u.classes) above.0)) has_slot;
      } where
        narrow : parameter_units (field_types (headers_of u.classes) (header_of file).name) ≤ 64
        narrow =
            let candidate = to.is_candidate in
            let few = candidate.narrow in
            let less = fewer_units (headers_of u.classes) hierarchy to.candidate candidate.header
            (class_of_folder (headers_of u.classes) to.candidate candidate.header candidate.found) (header_of file).name
            (of_chain (headers_of u.classes) to.candidate (header_of file).name to.of_chain_of).there in
            omega (arith, few, less)

  -- ---- the class of an object

  module _ (shape : ℕ) (class : RunClass) (of_shape : slice_get (second u).classes shape ≡ Some class) where
    record IsLow : Type 0 where
      pub file : ClassFile
      pub is_file : slice_get u.classes.folder shape ≡ Some file
      pub named_so : name_of_class (second u) shape ≡ (header_of file).name

    low : IsLow
    low = by (slice_get u.classes.folder shape) refl where
      own : slice_get (second u).classes shape
          ≡ option_map (replaced_class u.s shape) (option_map (run_class_of u.links (headers_of u.classes)) (slice_get u.classes.folder shape))
      own =
          replaced_at (program_of u.classes u.links) u.s shape
          ∙ ap (option_map (replaced_class u.s shape)) (slice_get-map (run_class_of u.links (headers_of u.classes)) u.classes.folder shape)

      by : (found : Option ClassFile) → slice_get u.classes.folder shape ≡ found → IsLow
      by None none =
          absurd (none-some class (sym (own ∙ ap (λ (o : Option ClassFile). option_map (replaced_class u.s shape)
          (option_map (run_class_of u.links (headers_of u.classes)) o)) none) ∙ of_shape))
      by (Some file) some = record {
        file = file;
        is_file = some;
        named_so = rw (class_replaced u.classes u.links u.s shape file some) refl;
      }

    abbrev low_name : Name
    low_name = (header_of low.file).name

    low_there : class_named (headers_of u.classes) low_name ≡ Some (header_of low.file)
    low_there = class_is shape low.file low.is_file

    flat : ¬ IsArray low_name
    flat =
        there_is_no_array (headers_of u.classes) (hierarchy_is_sound (headers_of u.classes) hierarchy) hierarchy.no_array low_name
        (ap is_some low_there)

    -- what is above it
    up_to : (name : Name) → (second u).links.below (name_of_class (second u) shape) name ≡ true
        → (low_name ≡ name) ⊎ IsBelow (headers_of u.classes) low_name name
    up_to name below =
        (class_decides (headers_of u.classes) (hierarchy_is_sound (headers_of u.classes) hierarchy) hierarchy.no_array low_name name flat).0
        ((setup.linked.below low_name name).0 (ap (λ (n : Name). u.links.below n name) (sym low.named_so) ∙ below))

    step_up : (name above : Name) (header : Header) → class_named (headers_of u.classes) name ≡ Some header → header.super_name ≡ Some above
        → (low_name ≡ name) ⊎ IsBelow (headers_of u.classes) low_name name
        → IsBelow (headers_of u.classes) low_name above
    step_up name above header is some (inl equal) =
        directly low_name above
        (subst (λ (n : Name). IsDirectlyBelow (headers_of u.classes) n above) (sym equal) (superclass name above header is some))
    step_up name above header is some (inr below) = below_more below (directly name above (superclass name above header is some))

    -- java/lang/Object
    at_top : IsBelow (headers_of u.classes) low_name object → (second u).links.below (name_of_class (second u) shape) object ≡ true
        → (upper : Name) → upper ≡ object → bytes_eq upper object ≡ true
        → IsBelowObject (second u) u.classes shape upper
    at_top below conforms upper equal is_object = record {
      is_object = is_object;
      no_fields = ap (instance_fields (headers_of u.classes)) equal
          ∙ object_without_fields (headers_of u.classes) hierarchy top.0 top.1 outside;
      member = initialiser.member;
      found = ap (option_and_then (λ (header : Header). first_member (record { class = object; name = init; desc = codes "()V" }) header.methods)) in_second
          ∙ first_declared (record { class = object; name = init; desc = codes "()V" }) top.0.methods ∙ initialiser.found;
      no_static = initialiser.no_static;
      conforms = conforms;
    } where
      outside : named object (headers_of u.classes).folder ≡ None
      outside = no_folder_object u.classes setup.tree hierarchy

      top : (header : Header) × (class_named (headers_of u.classes) object ≡ Some header)
      top =
          class_there (headers_of u.classes) object
          (above_is_there (headers_of u.classes) (hierarchy_is_sound (headers_of u.classes) hierarchy) below)

      has_one : HasOneConstructor top.0
      has_one =
          subst (λ (found : Option Header). IfSome found HasOneConstructor) top.1 (object_has u.classes setup.tree shape low.file low.is_file)

      initialiser : HasInitialiser top.0
      initialiser = has_initialiser top.0 has_one

      in_library : named object u.classes.library ≡ Some top.0
      in_library = sym (named_behind object (headers_of u.classes).folder u.classes.library outside) ∙ top.1

      no_number : folder_number (second u) object ≡ None
      no_number =
          same_number same object
          ∙ number_of_mapped (λ (header : Header). bytes_eq object header.name) (λ (c : RunClass). c.header)
          (map (run_class_of u.links (headers_of u.classes)) u.classes.folder)
          ∙ ap (number_of_first (λ (header : Header). bytes_eq object header.name)) (folder_headers u.links (headers_of u.classes) u.classes.folder)
          ∙ no_number_of object (headers_of u.classes).folder outside

      in_second : header_named (second u) object ≡ Some top.0
      in_second =
          named_behind object (map (λ (c : RunClass). c.header) (second u).classes) u.classes.library (none_named object (second u).classes no_number)
          ∙ in_library

  pub knows_each : (shape : ℕ) (class : RunClass) → slice_get (second u).classes shape ≡ Some class
      → KnowsEach (second u) u.classes u.links u.constructor u.s shape
  knows_each shape class of_shape = record {
    each = λ number file is_file added below.
        is_constructor number file is_file added shape (low_name shape class of_shape) (low shape class of_shape).named_so
        (header_of (low shape class of_shape).file) (low_there shape class of_shape) (up_to shape class of_shape (header_of file).name below) below;
    up = λ name above header is some below.
        ap (λ (n : Name). u.links.below n above) (low shape class of_shape).named_so
        ∙ (setup.linked.below (low_name shape class of_shape) above).1
        (class_is_subtype (headers_of u.classes) (hierarchy_is_sound (headers_of u.classes) hierarchy) hierarchy.no_array
        (step_up shape class of_shape name above header is some (up_to shape class of_shape name below)));
    top = λ above is_object below.
        let equal = (bytes_eq-Decides above object).0 is_object in
        let at_object = subst (λ (n : Name). (second u).links.below (name_of_class (second u) shape) n ≡ true) equal below in
        elim (up_to shape class of_shape object at_object) [
          | inl top ↦
              absurd (not_object u.classes setup.tree shape (header_of (low shape class of_shape).file)
              (header_at shape (low shape class of_shape).file (low shape class of_shape).is_file) top)
          | inr up ↦ at_top shape class of_shape up at_object above equal is_object
        ];
  }

  -- The field constructor of a class fills the objects of a class that is at or below it.
  pub constructs : Constructs u
  constructs = constructs_by u hierarchy knows_each
