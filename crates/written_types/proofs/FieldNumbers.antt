-- A getfield or putfield of a virtual object names a field of a class of the folder, which has a number among those of the object.
use Rattle.std.proofs.Common.{◌≡◌, ◌⊎◌, ◌+◌, ◌++◌, ℕ, Bool, true, false, List, [], ◌∷◌, length, map, Option, Some, None, IsTrue, is_some, option_and_then, option_map, refl, sym, ap, subst, ◌∙◌, inl, inr}
use Rattle.std.specs.Prelude.{◌&&◌, ◌||◌, bytes_eq, not, if◌then◌else◌}
use Rattle.std.specs.List.{AllByRecursion}
use Rattle.std.proofs.lemmas.Bool.{false≢true}
use Rattle.std.proofs.lemmas.Option.{none-some, same_Some}
use Rattle.class_model.specs.Checks.{AllHold}
use Rattle.class_model.specs.ClassOf.{fields_checks}
use Rattle.class_model.specs.Header.{field_member, header_of}
use Rattle.class_model.specs.Laws.Checks.{first_holds, others_hold}
use Rattle.class_model.specs.Laws.ClassFiles.{fields_place, parts_hold}
use Rattle.class_model.specs.Members.{INTERFACE, STATIC, Signature, field_checks, field_signature, has, one_visibility}
use Rattle.class_model.specs.Pool.{Constants, constant_at}
use Rattle.class_model.specs.PoolChecks.{IsFieldConstant}
use Rattle.class_model.specs.Spelling.{field_bytes}
use Rattle.class_model.specs.declared.class_file.ClassFile.{ClassFile}
use Rattle.class_model.specs.declared.class_file.Field.{Field}
use Rattle.class_model.specs.declared.frame.VType.{VType}
use Rattle.class_model.specs.declared.frame.VType.TheVariants as types
use Rattle.class_model.specs.declared.header.Header.{Header}
use Rattle.class_model.specs.declared.header.Member.{Member}
use Rattle.class_model.specs.declared.instr.Instr.{Instr}
use Rattle.class_model.specs.declared.instr.Instr.TheVariants.{GetField, PutField}
use Rattle.class_model.specs.declared.pool.Const.{Const}
use Rattle.class_model.specs.declared.pool.Const.TheVariants.{Class, Double, Fieldref, Float, Integer, InterfaceMethodref, InvokeDynamic, Long, MethodHandle, MethodType, Methodref, NameAndType, String, Utf8}
use Rattle.class_tree.specs.Headers.{Headers, IsClassFile, IsThere, Name, class_named, headers_of, named}
use Rattle.class_tree.specs.Hierarchy.{IsHierarchy}
use Rattle.class_tree.specs.Laws.Above.{below_more, class_above_interface, class_decides, hierarchy_is_rooted, hierarchy_is_sound, there_is_no_array}
use Rattle.class_tree.specs.Laws.Arrays.{is_array_of}
use Rattle.class_tree.specs.Laws.Headers.{same_class}
use Rattle.class_tree.specs.Names.{is_interface, object}
use Rattle.class_tree.specs.Subtype.{IsArray, IsBelow}
use Rattle.flow_code.specs.FlatCode.{point_at}
use Rattle.flow_code.specs.declared.point.FlatInstr.TheVariants.{Of}
use Rattle.flow_code.specs.declared.point.Point.{Point}
use Rattle.flow_code.specs.declared.point.Site.{Site}
use Rattle.member_link.specs.Assignability.{IsAssignable, IsNameAssignable, from_array, from_null, of_components, of_names, to_class_above, to_interface, to_itself, to_same, to_top}
use Rattle.member_link.specs.Declarations.{site_of}
use Rattle.member_link.specs.DeclaredMembers.{Declared, declared}
use Rattle.member_link.specs.Fields.{FindsField, FindsFirst, above_class, absent_class, in_class, in_no_class, in_other_class}
use Rattle.member_link.specs.Forms.{IsInstanceForm}
use Rattle.member_link.specs.FoundAbove.{IsFieldAbove}
use Rattle.member_link.specs.Machine.Layouts.{slot_number_in}
use Rattle.member_link.specs.Machine.Links.{reference_to}
use Rattle.member_link.specs.References.{Reference, reference_at}
use Rattle.member_link.specs.Signatures.{reference_of}
use Rattle.member_link.specs.Uses.{UseScope, asked_of_reference, field_use_checks, fieldref_use_checks}
use Rattle.plan_flow.specs.PlanScope.{field_number, is_of_library}
use Rattle.same_runs.specs.Laws.FoundMembers.{FieldLaws}
use Rattle.same_runs.specs.ReadyCode.{IsReadyInstr, IsReadyItem}
use Rattle.written_types.proofs.FieldReads.{FieldsNumbered, named_in}
use Rattle.written_types.proofs.Given.{Given}
use Rattle.written_types.proofs.ReadyPoints.{same_file}
use Rattle.written_types.proofs.SiteFields.{SitesKnown}
use Rattle.written_types.proofs.SiteSlots.{FolderField, IsIn, declared_in, slot_there}
use Rattle.written_types.proofs.Standing.{all_at}
use Rattle.written_types.specs.FitsTypes.{IsOfType}
use Rattle.written_types.specs.Writing.{Writing}

-- ---- fields of interfaces are static

static_field : (visible interface static : Bool) → (visible && (not interface || static)) ≡ true → interface ≡ true → static ≡ true
static_field true true true is e = refl
static_field true true false is e = is
static_field true false static is e = absurd (false≢true e)
static_field false interface static is e = absurd (false≢true is)

all_static : (pool : Constants) (flags : ℕ) (before : List Signature) (at : ℕ) (fields : List Field)
    → AllHold (fields_checks pool flags before at fields) → has flags INTERFACE ≡ true
    → AllByRecursion (λ (field : Member). has field.flags STATIC ≡ true) (map (field_member pool) fields)
all_static pool flags before at [] all is = tt
all_static pool flags before at (f ∷ fields) all is =
    let one = first_holds (field_checks pool flags before at f) (fields_checks pool flags (before ++ field_signature f ∷ [])
    (at + length (field_bytes f)) fields) all in
    let others = others_hold (field_checks pool flags before at f)
    (fields_checks pool flags (before ++ field_signature f ∷ []) (at + length (field_bytes f)) fields) all in (
      static_field (one_visibility f.flags) (has flags INTERFACE) (has f.flags STATIC) one.0 is,
      all_static pool flags (before ++ field_signature f ∷ []) (at + length (field_bytes f)) fields others is,
    )

file_static : (file : ClassFile) → IsClassFile file → is_interface (header_of file) ≡ true
    → AllByRecursion (λ (field : Member). has field.flags STATIC ≡ true) (header_of file).fields
file_static file read kind =
    let parts = subst (λ (c : ClassFile). AllHold (fields_checks c.pool c.flags [] (fields_place c + 2) c.fields)) (sym read.is)
    (parts_hold read.cut read.holds).fields in
    all_static file.pool file.flags [] (fields_place file + 2) file.fields parts kind

each_in : {A : Type 0} (P : A → Type 0) (x : A) (xs : List A) → AllByRecursion P xs → IsIn x xs → P x
each_in P x [] all is = absurd is
each_in P x (y ∷ xs) all (inl same) = subst P same all.0
each_in P x (y ∷ xs) all (inr is) = each_in P x xs all.1 is

-- the class of a name among files
of_files : (name : Name) (files : List ClassFile) (header : Header) → AllByRecursion IsClassFile files → named name (map header_of files) ≡ Some header
    → is_interface header ≡ true
    → AllByRecursion (λ (field : Member). has field.flags STATIC ≡ true) header.fields
of_files name [] header all is kind = absurd (none-some header is)
of_files name (file ∷ files) header all is kind =
    by (bytes_eq name (header_of file).name) refl is (λ rest. of_files name files header all.1 rest kind) where
      by : (b : Bool) → bytes_eq name (header_of file).name ≡ b
          → (if b then Some (header_of file) else named name (map header_of files)) ≡ Some header
          → (named name (map header_of files) ≡ Some header → AllByRecursion (λ (field : Member). has field.flags STATIC ≡ true) header.fields)
          → AllByRecursion (λ (field : Member). has field.flags STATIC ≡ true) header.fields
      by true e found rest =
          let same = same_Some (header_of file) header found in
          subst (λ (h : Header). AllByRecursion (λ (field : Member). has field.flags STATIC ≡ true) h.fields) same
          (file_static file all.0 (ap is_interface same ∙ kind))
      by false e found rest = rest found

-- ---- what look-up finds

record InstanceFound (headers : Headers) (r : Reference) : Type 0 where
  one : Declared
  finds : FindsField headers r.class r.name r.desc (Some one)
  of_object : has one.member.flags STATIC ≡ false

instance_found : (s : UseScope) (constant : Option Const) (r : Reference) → IsFieldConstant constant
    → reference_of s.pool constant ≡ Some r
    → AllHold (fieldref_use_checks s IsInstanceForm constant)
    → InstanceFound s.headers r
instance_found s (Some (Fieldref owner member)) r may is holds = by (reference_at s.pool owner member) is holds where
  by : (found : Option Reference) → found ≡ Some r → AllHold (asked_of_reference (field_use_checks s IsInstanceForm) found)
      → InstanceFound s.headers r
  by None none all = absurd (none-some r none)
  by (Some other) some all =
      let found = all.1.1.0 in
      subst (InstanceFound s.headers) (same_Some other r some)
      (record { one = found.0; finds = found.1; of_object = all.1.1.1.0 found.0 found.1 })
instance_found s None r may is holds = absurd may
instance_found s (Some (Utf8 text)) r may is holds = absurd may
instance_found s (Some (Integer number)) r may is holds = absurd may
instance_found s (Some (Float bits)) r may is holds = absurd may
instance_found s (Some (Long number)) r may is holds = absurd may
instance_found s (Some (Double bits)) r may is holds = absurd may
instance_found s (Some (Class name)) r may is holds = absurd may
instance_found s (Some (String text)) r may is holds = absurd may
instance_found s (Some (Methodref owner member)) r may is holds = absurd may
instance_found s (Some (InterfaceMethodref owner member)) r may is holds = absurd may
instance_found s (Some (NameAndType name desc)) r may is holds = absurd may
instance_found s (Some (MethodHandle kind reference)) r may is holds = absurd may
instance_found s (Some (MethodType desc)) r may is holds = absurd may
instance_found s (Some (InvokeDynamic bootstrap member)) r may is holds = absurd may

-- ---- a class and what it is taken for

module _ (headers : Headers) (hierarchy : IsHierarchy headers) where
  -- what is above an interface, and is none, is java/lang/Object
  object_above : {low high : Name} (one header : Header) → class_named headers low ≡ Some one → IsTrue (is_interface one)
      → class_named headers high ≡ Some header
      → is_interface header ≡ false
      → (low ≡ high) ⊎ IsBelow headers low high
      → high ≡ object
  object_above {low = low} one header is kind found flat (inl same) =
      absurd (false≢true (sym flat
      ∙ ap is_interface (same_class headers low header one (subst (λ (name : Name). class_named headers name ≡ Some header) (sym same) found) is) ∙ kind))
  object_above one header is kind found flat (inr up) =
      class_above_interface headers (hierarchy_is_sound headers hierarchy) (hierarchy_is_rooted headers hierarchy) up one header is kind found flat

  no_array_there : (name : Name) → IsThere headers name → ¬ IsArray name
  no_array_there name there = there_is_no_array headers (hierarchy_is_sound headers hierarchy) hierarchy.no_array name there

  upwards : {low middle high : Name} → IsBelow headers low middle → (middle ≡ high) ⊎ IsBelow headers middle high
      → (low ≡ high) ⊎ IsBelow headers low high
  upwards {low = low} below (inl same) = inr (subst (IsBelow headers low) same below)
  upwards below (inr more) = inr (below_more below more)

  module _ (high : Name) (header : Header) (found : class_named headers high ≡ Some header) (flat : is_interface header ≡ false) where
    names_up : {low middle : Name} → IsThere headers low → IsNameAssignable headers low middle → (middle ≡ high) ⊎ IsBelow headers middle high
        → (low ≡ high) ⊎ IsBelow headers low high
    names_up there (to_itself _) up = up
    names_up {low = low} there (to_interface _ _ one apart is kind) up =
        subst (λ (name : Name). (low ≡ name) ⊎ IsBelow headers low name) (sym (object_above one header is kind found flat up))
        (hierarchy_is_rooted headers hierarchy low there)
    names_up there (to_class_above _ _ below) up = upwards below up
    names_up {low = low} there (from_array _ _ array above) up = absurd (no_array_there low there array)
    names_up {low = low} there (of_components _ _ one other is also names) up = absurd (no_array_there low there (is_array_of is))

    abbrev name_of : VType → Name
    name_of (types.Object name) = name
    name_of type = []

    types_up : {from to : VType} (low middle : Name) → IsThere headers low → IsAssignable headers from to → from ≡ types.Object low
        → to ≡ types.Object middle
        → (middle ≡ high) ⊎ IsBelow headers middle high
        → (low ≡ high) ⊎ IsBelow headers low high
    types_up low middle there (to_same type) is also up =
        let same : low ≡ middle = ap name_of (sym is ∙ also) in
        subst (λ (name : Name). (name ≡ high) ⊎ IsBelow headers name high) (sym same) up
    types_up low middle there (to_top type) is also up = absurd cc
    types_up low middle there (from_null name) is also up = absurd cc
    types_up low middle there (of_names one other names) is also up =
        names_up there (subst (λ (name : Name). IsNameAssignable headers low name) (ap name_of also)
        (subst (λ (name : Name). IsNameAssignable headers name other) (ap name_of is) names)) up

-- a field is found through a class that is there
nothing_found : (headers : Headers) (name desc : List ℕ) (found : Option Declared) → FindsFirst headers name desc [] found → found ≡ None
nothing_found headers name desc _ in_no_class = refl

finds_there : (headers : Headers) (class : Name) (name desc : List ℕ) (field : Declared) → FindsField headers class name desc (Some field)
    → IsThere headers class
finds_there headers class name desc field (in_class _ _ header member is declares) = ap is_some is
finds_there headers class name desc field (above_class _ _ header _ is none finds) = ap is_some is
finds_there headers class name desc field (in_other_class _ _ header _ is none finds others) = ap is_some is
finds_there headers class name desc field (absent_class _ _ _ is others) = absurd (none-some field (sym (nothing_found headers name desc (Some field) others)))

named_front : (name : Name) (ones others : List Header) (header : Header) → named name ones ≡ Some header → named name (ones ++ others) ≡ Some header
named_front name [] others header is = absurd (none-some header is)
named_front name (one ∷ ones) others header is = by (bytes_eq name one.name) refl is (named_front name ones others header) where
  by : (b : Bool) → bytes_eq name one.name ≡ b → (if b then Some one else named name ones) ≡ Some header
      → (named name ones ≡ Some header → named name (ones ++ others) ≡ Some header)
      → named name ((one ∷ ones) ++ others) ≡ Some header
  by true e found rest = rw (e) found
  by false e found rest = rw (e) (rest found)

-- ---- in a writing

module _ (w : Writing) (given : Given w) (known : SitesKnown w.s) (fields : FieldLaws) where
  abbrev H : Headers
  H = headers_of w.s.classes

  ready_at : (at class : ℕ) (point : Point) (instr : Instr) → point_at w.s.flat at ≡ Some point → point.instr ≡ Of class instr
      → IsReadyInstr w.s.classes w.s.flat.locals class instr
  ready_at at class point instr there is =
      subst (IsReadyItem w.s.classes w.s.flat.locals) is
      (all_at (λ (p : Point). IsReadyItem w.s.classes w.s.flat.locals p.instr) w.s.flat.points at point given.setting.ready.points there)

  no_member : Member
  no_member = record { flags = 0; name = []; desc = [] }

  scope_of_file : ClassFile → UseScope
  scope_of_file file = record { headers = H; pool = file.pool; site = site_of (header_of file) no_member }

  found_at : (at class index : ℕ) (point : Point) (r : Reference) → point_at w.s.flat at ≡ Some point
      → (point.instr ≡ Of class (GetField index)) ⊎ (point.instr ≡ Of class (PutField index))
      → named_in w class index ≡ Some r
      → InstanceFound H r
  unfolding scope_of_file
  found_at at class index point r there (inl is) names =
      let ready = ready_at at class point (GetField index) there is in
      instance_found (scope_of_file ready.file) (constant_at ready.file.pool index) r ready.operand
      (subst (λ (pool : Constants). reference_of pool (constant_at pool index) ≡ Some r) (same_file w.s.classes given.setting.tree class ready.file ready.there) names)
      (ready.linked no_member)
  found_at at class index point r there (inr is) names =
      let ready = ready_at at class point (PutField index) there is in
      instance_found (scope_of_file ready.file) (constant_at ready.file.pool index) r ready.operand
      (subst (λ (pool : Constants). reference_of pool (constant_at pool index) ≡ Some r) (same_file w.s.classes given.setting.tree class ready.file ready.there) names)
      (ready.linked no_member)

  record OfFolder (r field : Reference) : Type 0 where
    field_is : FolderField H field
    up : (r.class ≡ field.class) ⊎ IsBelow H r.class field.class

  module _ (r : Reference) (f : InstanceFound H r) where
    above : IsFieldAbove H r.class r.name r.desc f.one
    above = fields.above H r.class r.name r.desc f.one known.hierarchy f.finds

    member_is : IsIn f.one.member above.header.fields × (f.one.member.name ≡ r.name) × (f.one.member.desc ≡ r.desc)
    member_is = declared_in r.name r.desc above.header.fields f.one.member above.declares

    in_folder : is_of_library w.s (reference_to f.one) ≡ false → named f.one.class H.folder ≡ Some above.header
    in_folder folder = by (named f.one.class H.folder) refl where
      by : (found : Option Header) → named f.one.class H.folder ≡ found → named f.one.class H.folder ≡ Some above.header
      by None none = absurd (false≢true (sym folder ∙ ap (λ (found : Option Header). not (is_some found)) none))
      by (Some header) some =
          some
          ∙ ap Some (same_class H f.one.class header above.header (named_front f.one.class H.folder H.library header some) above.found)

    of_folder : is_of_library w.s (reference_to f.one) ≡ false → OfFolder r (reference_to f.one)
    of_folder folder = record {
      field_is = record {
        header = above.header;
        found = above.found;
        in_folder = in_folder folder;
        member = f.one.member;
        declares =
            ap (λ (name : List ℕ). declared name f.one.member.desc above.header.fields) member_is.1
            ∙ ap (λ (desc : List ℕ). declared r.name desc above.header.fields) member_is.2
            ∙ above.declares;
        of_object = f.of_object;
        no_interface = by (is_interface above.header) refl;
      };
      up =
          (class_decides H (hierarchy_is_sound H known.hierarchy) known.hierarchy.no_array r.class f.one.class
          (no_array_there H known.hierarchy r.class (finds_there H r.class r.name r.desc f.one f.finds))).0 above.above;
    } where
      by : (b : Bool) → is_interface above.header ≡ b → is_interface above.header ≡ false
      by false e = e
      by true e =
          absurd (false≢true (sym f.of_object ∙ each_in (λ (m : Member). has m.flags STATIC ≡ true) f.one.member above.header.fields
          (of_files f.one.class w.s.classes.folder above.header given.setting.tree.folder (in_folder folder) e) member_is.0))

    linked_is : (field : Reference) → w.s.links.field r ≡ Some field → reference_to f.one ≡ field
    linked_is field is =
        let link = known.links.field r in
        let one = fields.one H r.class r.name r.desc link.found (Some f.one) link.finds f.finds in
        same_Some (reference_to f.one) field (sym (link.same ∙ ap (option_map reference_to) one) ∙ is)

    place_there : (site : ℕ) (field : Reference) → w.s.links.field r ≡ Some field → IsOfType w.s site (types.Object r.class)
        → is_of_library w.s field ≡ false
        → (place : ℕ) × (field_number w.s site field ≡ Some place)
    place_there site field is of_type folder =
        let own = subst (OfFolder r) (linked_is field is) (of_folder (subst (λ (one : Reference). is_of_library w.s one ≡ false) (sym (linked_is field is)) folder)) in
        let there = known.there site of_type.site of_type.there in
        let up = types_up H known.hierarchy field.class own.field_is.header own.field_is.found own.field_is.no_interface of_type.site.class r.class there
        of_type.assignable refl refl own.up in
        let number = slot_there H known.hierarchy of_type.site.class field own.field_is there up in
        (number.0, ap (option_and_then (λ (one : Site). slot_number_in H one.class field)) of_type.there ∙ number.1)

  -- Each field that a getfield or putfield of a virtual object names has a number.
  pub fields_numbered : FieldsNumbered w
  fields_numbered = record {
    number = λ at class index site point r field there instr names linked of_type folder.
        place_there r (found_at at class index point r there instr names) site field linked of_type folder;
  }
