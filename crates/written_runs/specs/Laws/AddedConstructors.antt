-- The second program, in which field constructors are added to classes, is the same but for these and for codes and flags of fields.
use Rattle.std.proofs.Common.{◌≡◌, ◌≢◌, inl, inr, ◌==◌, not, ℕ, Bool, true, false, List, [], ◌∷◌, filter, map, bytes_eq, slice_get, Option, Some, None, option_map, IsTrue, IsFalse, refl, sym, ap, subst, ◌∙◌}
use Rattle.std.specs.List.{AllByRecursion, list_any}
use Rattle.std.proofs.lemmas.Bool.{and_from, and_parts, both_ways, false≢true, or_right}
use Rattle.std.proofs.lemmas.Option.{none-some, slice_get-map}
use Rattle.std.proofs.lemmas.Slice.Eq.{bytes_eq-Decides}
use Rattle.class_model.specs.Header.{header_of}
use Rattle.class_model.specs.Names.{init}
use Rattle.class_model.specs.Pool.{Constants, constant_at}
use Rattle.class_model.specs.declared.class_file.ClassFile.{ClassFile}
use Rattle.class_model.specs.declared.header.Header.{Header}
use Rattle.class_model.specs.declared.header.Member.{Member}
use Rattle.class_model.specs.declared.pool.Const.{Const}
use Rattle.class_model.specs.declared.pool.Const.TheVariants.{MethodHandle}
use Rattle.class_tree.specs.Headers.{Name, Headers, class_named, headers_of}
use Rattle.class_tree.specs.Hierarchy.{IsHierarchy}
use Rattle.class_tree.specs.Laws.Above.{hierarchy_is_rooted, hierarchy_is_sound, object_no_superclass, superclass_kind}
use Rattle.class_tree.specs.Laws.Headers.{same_class}
use Rattle.class_tree.specs.Laws.Names.{one_name_first, one_of_first}
use Rattle.class_tree.specs.Layouts.{chain, superclasses}
use Rattle.class_tree.specs.Names.{is_interface, is_member, object}
use Rattle.expanded_code.specs.Candidates.{HasRoom, IsCandidate}
use Rattle.expanded_code.specs.Laws.SuperChains.{of_each_class, super_there, superclasses_is, superclasses_of_root}
use Rattle.machine_values.specs.Heaps.{same_constant}
use Rattle.machine_values.specs.declared.object.Constant.TheVariants.{Handle}
use Rattle.member_link.specs.DeclaredMembers.{declared, declared_by, own_method}
use Rattle.member_link.specs.FieldConstructors.{HasDimensions, HasFieldConstructor, HandlesNone, constructor_descriptor, handled}
use Rattle.member_link.specs.Laws.FolderClasses.{class_of_folder, found_in_folder}
use Rattle.member_link.specs.Machine.Acting.{NEW_INVOKE_SPECIAL, is_handled}
use Rattle.member_link.specs.Machine.Classes.{handles_in, program_of, run_class_of, run_method_of}
use Rattle.member_link.specs.Machine.Programs.{RunClass, RunMethod}
use Rattle.member_link.specs.References.{Reference}
use Rattle.member_link.specs.Signatures.{reference_of}
use Rattle.plan_flow.specs.Written.WrittenPrograms.{constructor_method}
use Rattle.same_runs.specs.Laws.BothReplaced.{both_replaced_same}
use Rattle.same_runs.specs.Laws.FlatPrograms.{added_alike, class_of_file, members_of_class, none_added_alike}
use Rattle.same_runs.specs.Laws.ReplacedPrograms.{ReplacesAlike, replaced_same}
use Rattle.same_runs.specs.SamePrograms.{IsAdded, SamePrograms}
use Rattle.written_runs.specs.Inner.Setup.{IsSetup, Setup, first, second}

-- Field constructors are added to classes of candidates' chains alone: to those whose objects written code may make, and to the classes above.
pub record AddsToCandidates (u : Setup) : Type 0 where
  pub each : (number : ℕ) (file : ClassFile)
      → slice_get u.classes.folder number ≡ Some file
      → u.s.added number ≡ constructor_method u.classes u.links u.constructor file ∷ []
      → (class : Name)
      × IsCandidate u.classes class
      × IsTrue (list_any (bytes_eq (header_of file).name) (chain (headers_of u.classes) class))

-- ---- classes of chains

-- what holds of each name holds of one of them
pub each_name : (P : Name → Type 0) (names : List Name) (name : Name) → AllByRecursion P names → IsTrue (list_any (bytes_eq name) names) → P name
each_name P [] name all one = absurd (false≢true one)
each_name P (first ∷ names) name all one = elim (one_of_first first names name one) [
  | inl same ↦ subst P same all.0
  | inr later ↦ each_name P names name all.1 later
]

-- one of a chain is not java/lang/Object, and among the superclasses
pub record IsOfChain (names : List Name) (name : Name) : Type 0 where
  pub no_object : bytes_eq name object ≡ false
  pub there : IsTrue (list_any (bytes_eq name) names)

of_filtered : (name : Name) (names : List Name) → IsTrue (list_any (bytes_eq name) (filter (λ (n : Name). not (bytes_eq n object)) names))
    → IsOfChain names name
of_filtered name [] none = absurd (false≢true none)
of_filtered name (first ∷ names) is = by (bytes_eq first object) refl (of_filtered name names) where
  behind : IsOfChain names name → IsOfChain (first ∷ names) name
  behind rest = record { no_object = rest.no_object; there = or_right _ _ rest.there }

  by : (b : Bool) → bytes_eq first object ≡ b
      → (IsTrue (list_any (bytes_eq name) (filter (λ (n : Name). not (bytes_eq n object)) names)) → IsOfChain names name)
      → IsOfChain (first ∷ names) name
  by true e rest = behind (rest (sym (rw (e) refl) ∙ is))
  by false e rest =
      elim (one_of_first first (filter (λ (n : Name). not (bytes_eq n object)) names) name (sym (rw (e) refl) ∙ is)) [
        | inl same ↦ record {
          no_object = ap (λ (n : Name). bytes_eq n object) (sym same) ∙ e;
          there = one_name_first name first names same;
        }
        | inr later ↦ behind (rest later)
      ]

pub of_chain : (headers : Headers) (class name : Name) → IsTrue (list_any (bytes_eq name) (chain headers class))
    → IsOfChain (superclasses headers class) name
of_chain headers class name one = of_filtered name (superclasses headers class) one

module _ (headers : Headers) (hierarchy : IsHierarchy headers) where
  -- what is above a class that is no interface is none
  abbrev NoInterfaces : Name → Type 0
  NoInterfaces class =
      (header : Header)
      → class_named headers class ≡ Some header
      → IsFalse (is_interface header)
      → (name : Name) (above : Header)
      → IsTrue (list_any (bytes_eq name) (superclasses headers class))
      → class_named headers name ≡ Some above
      → IsFalse (is_interface above)

  itself_none : (class : Name) (header : Header) → class_named headers class ≡ Some header → IsFalse (is_interface header)
      → (name : Name) (above : Header)
      → class ≡ name
      → class_named headers name ≡ Some above
      → IsFalse (is_interface above)
  itself_none class header is none name above same there =
      subst (λ (h : Header). IsFalse (is_interface h))
      (same_class headers class header above is (ap (class_named headers) same ∙ there)) none

  pub no_interfaces : (class : Name) (header : Header) → class_named headers class ≡ Some header → NoInterfaces class
  no_interfaces class header is = of_each_class headers hierarchy NoInterfaces top step class header is where
    top : (top_header : Header) → class_named headers object ≡ Some top_header → NoInterfaces object
    top top_header there header_of_object is_object none name above one above_is =
        elim (one_of_first object [] name (subst (λ (names : List Name). IsTrue (list_any (bytes_eq name) names)) up one)) [
          | inl same ↦ itself_none object header_of_object is_object none name above same above_is
          | inr later ↦ absurd (false≢true later)
        ] where
          up : superclasses headers object ≡ object ∷ []
          up =
              superclasses_of_root headers hierarchy object top_header there
              (object_no_superclass headers (hierarchy_is_sound headers hierarchy) (hierarchy_is_rooted headers hierarchy) top_header there)

    step : (low high : Name) (low_header : Header) → class_named headers low ≡ Some low_header → low ≢ object → low_header.super_name ≡ Some high
        → NoInterfaces high
        → NoInterfaces low
    step low high low_header there differ some rest own own_is none name above one above_is =
        elim (one_of_first low (superclasses headers high) name
        (subst (λ (names : List Name). IsTrue (list_any (bytes_eq name) names)) (superclasses_is headers hierarchy low low_header there high some) one)) [
          | inl same ↦ itself_none low own own_is none name above same above_is
          | inr later ↦
              let higher = super_there headers hierarchy low low_header there high some in
              rest higher.0 higher.1
              (superclass_kind headers (hierarchy_is_sound headers hierarchy) low low_header there high some higher.0 higher.1) name above later above_is
        ]

-- ---- methods

-- no method is of a name and descriptor
none_declared : (name desc : List ℕ) (members : List Member) → declared name desc members ≡ None
    → AllByRecursion (λ (member : Member). member.name ≡ name → member.desc ≡ desc → ⊥) members
none_declared name desc [] none = tt
none_declared name desc (member ∷ members) none = by (is_member name desc member) refl (none_declared name desc members) where
  by : (b : Bool) → is_member name desc member ≡ b
      → (declared name desc members ≡ None → AllByRecursion (λ (member : Member). member.name ≡ name → member.desc ≡ desc → ⊥) members)
      → AllByRecursion (λ (member : Member). member.name ≡ name → member.desc ≡ desc → ⊥) (member ∷ members)
  by true e rest = absurd (none-some member (sym none ∙ rw (e) refl))
  by false e rest = (
    λ is_name is_desc.
        false≢true (sym e ∙ and_from _ _ ((bytes_eq-Decides name member.name).1 (sym is_name)) ((bytes_eq-Decides desc member.desc).1 (sym is_desc))),
    rest (sym (rw (e) refl) ∙ none),
  )

of_members : (P : Member → Type 0) (methods : List RunMethod) → AllByRecursion P (map (λ (method : RunMethod). method.member) methods)
    → AllByRecursion (λ (method : RunMethod). P method.member) methods
of_members P [] all = tt
of_members P (method ∷ methods) all = (all.0, of_members P methods all.1)

-- ---- method handles

-- a handle of a pool is of no such member
handle_differs : (class : Name) (desc : List ℕ) (pool : Constants) (entries : List (Option Const))
    → AllByRecursion (λ (constant : Option Const). handled pool constant ≢ Some (record { class = class; name = init; desc = desc })) entries
    → list_any (same_constant (Handle NEW_INVOKE_SPECIAL class init desc)) (handles_in pool entries) ≡ false
handle_differs class desc pool [] none = refl
handle_differs class desc pool (None ∷ entries) none = handle_differs class desc pool entries none.1
handle_differs class desc pool (Some (MethodHandle kind index) ∷ entries) none =
    by (reference_of pool (constant_at pool index)) refl (handle_differs class desc pool entries none.1) where
      differs : (r : Reference) → reference_of pool (constant_at pool index) ≡ Some r
          → same_constant (Handle NEW_INVOKE_SPECIAL class init desc) (Handle kind r.class r.name r.desc) ≡ false
      differs r is =
          test (same_constant (Handle NEW_INVOKE_SPECIAL class init desc) (Handle kind r.class r.name r.desc)) refl where
            test : (b : Bool) → same_constant (Handle NEW_INVOKE_SPECIAL class init desc) (Handle kind r.class r.name r.desc) ≡ b
                → same_constant (Handle NEW_INVOKE_SPECIAL class init desc) (Handle kind r.class r.name r.desc) ≡ false
            test false e = e
            test true e =
                let kinds = and_parts (NEW_INVOKE_SPECIAL == kind) _ e in
                let classes = and_parts (bytes_eq class r.class) _ kinds.1 in
                let names = and_parts (bytes_eq init r.name) (bytes_eq desc r.desc) classes.1 in
                let same : r ≡ record { class = class; name = init; desc = desc } =
                λ i. record {
                  class = sym ((bytes_eq-Decides class r.class).0 classes.0) i;
                  name = sym ((bytes_eq-Decides init r.name).0 names.0) i;
                  desc = sym ((bytes_eq-Decides desc r.desc).0 names.1) i;
                } in
                absurd (none.0 (is ∙ ap Some same))

      by : (found : Option Reference) → reference_of pool (constant_at pool index) ≡ found
          → list_any (same_constant (Handle NEW_INVOKE_SPECIAL class init desc)) (handles_in pool entries) ≡ false
          → list_any (same_constant (Handle NEW_INVOKE_SPECIAL class init desc)) (handles_in pool (Some (MethodHandle kind index) ∷ entries)) ≡ false
      by None e rest = rw (e) rest
      by (Some r) e rest = rw (e) (rw (differs r e) rest)
handle_differs class desc pool (Some constant ∷ entries) none = handle_differs class desc pool entries none.1

-- ---- the first program

pub first_alike : (u : Setup) → IsSetup u → ReplacesAlike (program_of u.classes u.links) u.r
first_alike u setup = none_added_alike u.classes u.links setup.linked u.r setup.replaces.none_added

module _ (u : Setup) (setup : IsSetup u) (hierarchy : IsHierarchy (headers_of u.classes)) (adds : AddsToCandidates u) where
  -- a class to which a field constructor is added
  pub record IsAddedTo (file : ClassFile) : Type 0 where
    pub candidate : Name
    pub is_candidate : IsCandidate u.classes candidate
    pub of_chain_of : IsTrue (list_any (bytes_eq (header_of file).name) (chain (headers_of u.classes) candidate))
    pub room : HasRoom u.classes (header_of file).name
    pub no_object : bytes_eq (header_of file).name object ≡ false
    pub no_interface : IsFalse (is_interface (header_of file))
    pub named_class : class_named (headers_of u.classes) (header_of file).name ≡ Some (header_of file)

  pub added_to : (number : ℕ) (file : ClassFile)
      → slice_get u.classes.folder number ≡ Some file
      → u.s.added number ≡ constructor_method u.classes u.links u.constructor file ∷ []
      → IsAddedTo file
  added_to number file is_file added = record {
    candidate = found.0;
    is_candidate = found.1;
    of_chain_of = found.2;
    room = each_name (HasRoom u.classes) (chain (headers_of u.classes) found.0) (header_of file).name found.1.room found.2;
    no_object = up.no_object;
    no_interface =
        no_interfaces (headers_of u.classes) hierarchy found.0 found.1.header candidate_is found.1.header candidate_is found.1.no_interface
        (header_of file).name (header_of file) up.there here;
    named_class = here;
  } where
    found : (class : Name)
        × IsCandidate u.classes class
        × IsTrue (list_any (bytes_eq (header_of file).name) (chain (headers_of u.classes) class))
    found = adds.each number file is_file added

    up : IsOfChain (superclasses (headers_of u.classes) found.0) (header_of file).name
    up = of_chain (headers_of u.classes) found.0 (header_of file).name found.2

    candidate_is : class_named (headers_of u.classes) found.0 ≡ Some found.1.header
    candidate_is = class_of_folder (headers_of u.classes) found.0 found.1.header found.1.found

    here : class_named (headers_of u.classes) (header_of file).name ≡ Some (header_of file)
    here =
        class_of_folder (headers_of u.classes) (header_of file).name (header_of file)
        (found_in_folder (headers_of u.classes) hierarchy number (header_of file)
        (slice_get-map header_of u.classes.folder number ∙ ap (option_map header_of) is_file))

  -- its field constructor is of a descriptor that is free
  pub record HasFree (file : ClassFile) : Type 0 where
    pub dimensions : ℕ
    pub has : HasDimensions u.classes (header_of file).name dimensions
    pub is : u.constructor (header_of file).name ≡ constructor_descriptor (headers_of u.classes) (header_of file).name dimensions
    pub undeclared : declared init (u.constructor (header_of file).name) (header_of file).methods ≡ None

  pub has_free : (file : ClassFile) → IsAddedTo file → HasFree file
  has_free file to = record {
    dimensions = field.dimensions;
    has = field.has;
    is = is;
    undeclared = by (declared init (u.constructor (header_of file).name) (header_of file).methods) refl;
  } where
    field : HasFieldConstructor u.classes (header_of file).name
    field = to.room.constructor

    is : u.constructor (header_of file).name ≡ constructor_descriptor (headers_of u.classes) (header_of file).name field.dimensions
    is = setup.constructors (header_of file).name field.dimensions field.has

    own : own_method (headers_of u.classes) (header_of file).name init (u.constructor (header_of file).name) ≡ None
    own = ap (own_method (headers_of u.classes) (header_of file).name init) is ∙ field.has.free.undeclared

    by : (found : Option Member) → declared init (u.constructor (header_of file).name) (header_of file).methods ≡ found
        → declared init (u.constructor (header_of file).name) (header_of file).methods ≡ None
    by None none = none
    by (Some member) some = absurd (none-some (declared_by (header_of file).name member) (sym own ∙ there)) where
      there : own_method (headers_of u.classes) (header_of file).name init (u.constructor (header_of file).name)
          ≡ Some (declared_by (header_of file).name member)
      there = rw (to.named_class, some) refl

  -- ---- programs

  unhandled_in : (name : Name) (desc : List ℕ) (folder : List ClassFile)
      → AllByRecursion (HandlesNone (record { class = name; name = init; desc = desc })) folder
      → list_any (λ (found : RunClass). list_any (same_constant (Handle NEW_INVOKE_SPECIAL name init desc)) found.handles)
      (map (run_class_of u.links (headers_of u.classes)) folder)
      ≡ false
  unhandled_in name desc [] none = refl
  unhandled_in name desc (file ∷ folder) none =
      rw (handle_differs name desc file.pool file.pool none.0, unhandled_in name desc folder none.1) refl

  is_added : (number : ℕ) (file : ClassFile)
      → slice_get u.classes.folder number ≡ Some file
      → u.s.added number ≡ constructor_method u.classes u.links u.constructor file ∷ []
      → IsAdded (program_of u.classes u.links) (run_class_of u.links (headers_of u.classes) file)
      (constructor_method u.classes u.links u.constructor file)
  is_added number file is_file added = record {
    is_init = refl;
    is_new = of_members (λ (member : Member). member.name ≡ init → member.desc ≡ u.constructor (header_of file).name → ⊥)
        (map (run_method_of u.links (headers_of u.classes) file) file.methods)
        (subst (AllByRecursion (λ (member : Member). member.name ≡ init → member.desc ≡ u.constructor (header_of file).name → ⊥))
        (sym (members_of_class u.links (headers_of u.classes) file file.methods))
        (none_declared init (u.constructor (header_of file).name) (header_of file).methods free.undeclared));
    unhandled =
        subst (λ (desc : List ℕ). IsFalse (is_handled (program_of u.classes u.links) (header_of file).name desc)) (sym free.is)
        (unhandled_in (header_of file).name (constructor_descriptor (headers_of u.classes) (header_of file).name free.dimensions) u.classes.folder
        free.has.free.unhandled);
  } where
    free : HasFree file
    free = has_free file (added_to number file is_file added)

  pub written_alike : ReplacesAlike (program_of u.classes u.links) u.s
  written_alike =
      added_alike u.classes u.links setup.linked u.s
      (λ number class is.
      let file = class_of_file u.classes u.links number class is in
      all_added number file.0 class file.2 file.1)
      (λ number class is interface.
      let file = class_of_file u.classes u.links number class is in
      none_added number file.0 class file.2 file.1 interface) where
        all_added : (number : ℕ) (file : ClassFile) (class : RunClass) → slice_get u.classes.folder number ≡ Some file
            → run_class_of u.links (headers_of u.classes) file ≡ class
            → AllByRecursion (IsAdded (program_of u.classes u.links) class) (u.s.added number)
        all_added number file class is_file same = elim (setup.replaces_also.added number file is_file) [
          | inl none ↦ subst (AllByRecursion (IsAdded (program_of u.classes u.links) class)) (sym none) tt
          | inr one ↦
              subst (AllByRecursion (IsAdded (program_of u.classes u.links) class)) (sym one) (
                subst (λ (c : RunClass). IsAdded (program_of u.classes u.links) c (constructor_method u.classes u.links u.constructor file)) same
                    (is_added number file is_file one),
                tt,
              )
        ]

        none_added : (number : ℕ) (file : ClassFile) (class : RunClass) → slice_get u.classes.folder number ≡ Some file
            → run_class_of u.links (headers_of u.classes) file ≡ class
            → IsTrue (is_interface class.header)
            → u.s.added number ≡ []
        none_added number file class is_file same interface = elim (setup.replaces_also.added number file is_file) [
          | inl none ↦ none
          | inr one ↦
              absurd (both_ways (is_interface (header_of file)) (added_to number file is_file one).no_interface
              (ap (λ (c : RunClass). is_interface c.header) same ∙ interface))
        ]

  -- the folder's own program and the second
  pub own_second_same : SamePrograms (program_of u.classes u.links) (second u)
  own_second_same = replaced_same written_alike

  -- the first program and the second
  pub first_second_same : SamePrograms (first u) (second u)
  first_second_same = both_replaced_same (first_alike u setup) written_alike setup.replaces.none_added
