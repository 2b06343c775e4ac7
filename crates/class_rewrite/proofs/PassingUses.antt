-- What linking asks of an instruction of another class holds in the host's written class: its constant was added by what it means, and what it
-- names is open to the host's class.
use Rattle.std.proofs.Common.{◌≡◌, ◌⊎◌, inl, inr, ℕ, List, [], Option, Some, None, IfSome, IsTrue, IsFalse, refl, subst, ◌∙◌}
use Rattle.std.proofs.lemmas.Bool.{both_ways}
use Rattle.std.proofs.lemmas.Option.{same_Some}
use Rattle.class_model.specs.Checks.{AllHold}
use Rattle.class_model.specs.Code.{IsCalled, IsLoadable, OperandFits}
use Rattle.class_model.specs.Header.{header_of, method_member}
use Rattle.class_model.specs.Members.{PRIVATE, STATIC, has}
use Rattle.class_model.specs.Pool.{Constants, constant_at}
use Rattle.class_model.specs.PoolChecks.{IsClassAt, IsFieldConstant, IsInterfaceConstant, IsMethodConstant, class_at, descriptor_at, name_at, utf8_at}
use Rattle.class_model.specs.declared.class_file.ClassFile.{ClassFile}
use Rattle.class_model.specs.declared.instr.Instr.{Instr}
use Rattle.class_model.specs.declared.instr.Instr.TheVariants.{Cast, Dynamic, GetField, GetStatic, InstanceOf, Invoke, Ldc, Ldc2, New, NewMulti, NewRefArray, PutField, PutStatic}
use Rattle.class_model.specs.declared.pool.Const.{Const}
use Rattle.class_model.specs.declared.pool.Const.TheVariants as consts
use Rattle.class_rewrite.proofs.MeantOps.{class_meant}
use Rattle.class_tree.specs.Headers.{Headers, IsClassFile, IsThere, Name}
use Rattle.expanded_code.specs.Callees.{IsNoHandle, IsOpenClass, IsOpenConstant, IsOpenField, IsOpenFieldReference, IsOpenMethod, IsOpenMethodReference, NamesOpen, clone_of_array, opened_field, package_field, package_method, public_field, public_method}
use Rattle.expanded_code.specs.Quiet.{IsOfFolder}
use Rattle.expanded_runs.specs.CarriedConstants.{IsCarriable}
use Rattle.making_code.specs.Constants.{MemberKind, needs_at, of_field, of_interface_method, of_method, reference_of_kind}
use Rattle.making_code.specs.IndexedMaking.{index_of_last}
use Rattle.making_code.specs.Laws.AddedConstants.{class_named}
use Rattle.making_code.specs.Laws.MeantConstants.{Means, NamesMember}
use Rattle.member_link.specs.Access.{IsAccessible, IsClassAccessible, in_package, is_clone_of_array, is_public}
use Rattle.member_link.specs.Declarations.{Site, site_of}
use Rattle.member_link.specs.DeclaredMembers.{Declared}
use Rattle.member_link.specs.Fields.{FindsField}
use Rattle.member_link.specs.Forms.{FitsCall, IsInstanceForm, IsStaticForm}
use Rattle.member_link.specs.Methods.{FindsMethod}
use Rattle.member_link.specs.Overriding.{package_of}
use Rattle.member_link.specs.References.{DescriptorNames, FieldTypeNames, IsNamedAccessible, Reference, element_class, reference_at}
use Rattle.member_link.specs.Scope.{Scope}
use Rattle.member_link.specs.Signatures.{reference_of}
use Rattle.member_link.specs.Uses.{UseScope, class_use_checks, field_use_checks, fieldref_use_checks, instr_use_checks, loaded_checks, member_checks, methodref_use_checks, named_class_checks, new_checks}
use Rattle.plan_flow.specs.Written.WrittenConstants.{named_index, needs_of_index, with_index}
use Rattle.type_rules.specs.Grown.{AreGrownHeaders, IsGrownClass, IsSameFound}

-- ---- laws of the crates below

pub record LinkLaws : Type 0 where
  pub itself : (class : ClassFile) → IsGrownClass class class
  pub linked : (before after : Headers) (old new : ClassFile) (max_locals : ℕ) (instr : Instr) (site : Site) → AreGrownHeaders before after
      → IsClassFile old
      → IsGrownClass old new
      → OperandFits old.pool old.major max_locals instr
      → AllHold (instr_use_checks (record { headers = before; pool = old.pool; site = site }) instr)
      → AllHold (instr_use_checks (record { headers = after; pool = new.pool; site = site }) instr)
  pub fields : (old new : Headers) (class : Name) (name desc : List ℕ) (field : Declared) → AreGrownHeaders old new
      → FindsField old class name desc (Some field)
      → (found : Declared) × FindsField new class name desc (Some found) × IsSameFound field found
  pub methods : (old new : Headers) (class : Name) (name desc : List ℕ) (method : Declared) → AreGrownHeaders old new
      → FindsMethod old class name desc (Some method)
      → FindsMethod new class name desc (Some method)
  pub class_access : (old new : Headers) (from name : Name) → AreGrownHeaders old new → IsClassAccessible old from name → IsClassAccessible new from name
  pub method_access : (old new : Headers) (from named : Name) (method : Declared) → AreGrownHeaders old new → IsAccessible old from named method
      → IsAccessible new from named method
  pub field_access : (old new : Headers) (from named : Name) (field found : Declared) → AreGrownHeaders old new → IsSameFound field found
      → IsAccessible old from named field
      → IsAccessible new from named found
  pub one_field : (headers : Headers) (class : Name) (name desc : List ℕ) (one other : Option Declared) → FindsField headers class name desc one
      → FindsField headers class name desc other
      → one ≡ other
  pub one_method : (headers : Headers) (class : Name) (name desc : List ℕ) (one other : Option Declared) → FindsMethod headers class name desc one
      → FindsMethod headers class name desc other
      → one ≡ other

-- where references of a method's class stand
abbrev pub scope_uses : Scope → UseScope
scope_uses s = record { headers = s.headers; pool = s.class.pool; site = site_of (header_of s.class) (method_member s.class.pool s.method) }

module _ (laws : LinkLaws) (scope : Scope) (after : Headers) (site : Site) (pool : Constants)
    (is_file : IsClassFile scope.class) (grown : AreGrownHeaders scope.headers after) (first : constant_at pool 0 ≡ None) where
  abbrev before : Headers
  before = scope.headers

  abbrev old : Constants
  old = scope.class.pool

  -- where it stood, the same among the written classes, and where it stands
  abbrev was : UseScope
  was = scope_uses scope

  abbrev still : UseScope
  still = record was { headers = after }

  abbrev now : UseScope
  now = record { headers = after; pool = pool; site = site }

  -- ---- classes

  pub opened : (name : Name) → IsOpenClass before site.class name → IsNamedAccessible after site.class name
  opened name is_open = by (element_class name) is_open where
    by : (found : Option Name) → IfSome found (IsClassAccessible before site.class) → IfSome found (IsClassAccessible after site.class)
    by None is = is
    by (Some class) is = laws.class_access before after site.class class grown is

  class_passes : (name : Name) → IsOpenClass before site.class name → AllHold (named_class_checks still name) → AllHold (named_class_checks now name)
  class_passes name is_open held = (held.0, (opened name is_open, tt))

  module _ (index other : ℕ) (same : class_at pool other ≡ class_at old index)
      (is_open : (name : Name) → class_at old index ≡ Some name → IsOpenClass before site.class name) where
    class_moved : AllHold (class_use_checks still index) → AllHold (class_use_checks now other)
    class_moved held = by (class_at old index) refl where
      by : (found : Option Name) → class_at old index ≡ found → AllHold (class_use_checks now other)
      by None none = let gone = same ∙ none in rw (gone) tt
      by (Some name) some = let there = same ∙ some in rw (there) (class_passes name (is_open name some) (rw (some) at held))

    new_moved : AllHold (new_checks still index) → AllHold (new_checks now other)
    new_moved held = by (class_at old index) refl where
      by : (found : Option Name) → class_at old index ≡ found → AllHold (new_checks now other)
      by None none = let gone = same ∙ none in rw (gone) tt
      by (Some name) some =
          let there = same ∙ some in
          let asked = rw (some) at held in
          rw (there) (asked.0, (opened name (is_open name some), (asked.1.1.0, tt)))

  -- ---- members

  member_passes : (r : Reference) (Others : Type 0) (Finds : Option Declared → Type 0) (Form Other : Declared → Type 0)
      → IsOpenClass before site.class r.class
      → ((member : Declared) → Form member → Other member)
      → ((member : Declared) → Finds (Some member) → IsAccessible after site.class r.class member)
      → AllHold (member_checks still r Others Finds Form)
      → AllHold (member_checks now r Others Finds Other)
  member_passes r Others Finds Form Other is_open fits accessible held = (
    held.0,
    (
      opened r.class is_open,
      (held.1.1.0, ((λ member found. fits member (held.1.1.1.0 member found)), (accessible, tt))),
    ),
  )

  -- a private field of another class is open to the host's
  abbrev pub OpensField : Reference → Type 0
  OpensField r =
      (field found : Declared) → FindsField before r.class r.name r.desc (Some field) → FindsField after r.class r.name r.desc (Some found)
      → IsSameFound field found
      → IsTrue (has field.member.flags PRIVATE)
      → IsFalse (has field.member.flags STATIC)
      → IsOfFolder before field.class
      → package_of site.class ≡ package_of field.class
      → IsAccessible after site.class r.class found

  field_passes : (r : Reference) (Form : Declared → Type 0) → IsOpenFieldReference before site.class r → OpensField r
      → AllHold (field_use_checks was Form r)
      → AllHold (field_use_checks still Form r)
      → AllHold (field_use_checks now Form r)
  field_passes r Form is_open opens asked held =
      member_passes r (FieldTypeNames (IsThere after) r.desc) (FindsField after r.class r.name r.desc) Form Form is_open.class (λ member fits. fits) accessible
      held where
        accessible : (member : Declared) → FindsField after r.class r.name r.desc (Some member) → IsAccessible after site.class r.class member
        accessible member finds =
            subst (IsAccessible after site.class r.class)
            (same_Some found.0 member (laws.one_field after r.class r.name r.desc (Some found.0) (Some member) found.1 finds))
            (by (is_open.member field.0 field.1)) where
              field : (field : Declared) × FindsField before r.class r.name r.desc (Some field)
              field = asked.1.1.0

              found : (found : Declared) × FindsField after r.class r.name r.desc (Some found) × IsSameFound field.0 found
              found = laws.fields before after r.class r.name r.desc field.0 grown field.1

              still_open : IsAccessible before site.class r.class field.0 → IsAccessible after site.class r.class found.0
              still_open is = laws.field_access before after site.class r.class field.0 found.0 grown found.2 is

              by : IsOpenField before site.class field.0 → IsAccessible after site.class r.class found.0
              by (public_field public unprotected) = still_open (is_public public)
              by (package_field by_package same) = still_open (in_package by_package same)
              by (opened_field private instance of_folder same) = opens field.0 found.0 field.1 found.1 found.2 private instance of_folder same

  method_passes : (r : Reference) (Form Still Other : Declared → Type 0) → IsOpenMethodReference before site.class r
      → ((member : Declared) → Still member → Other member)
      → AllHold (member_checks was r (DescriptorNames (IsThere before) r.desc) (FindsMethod before r.class r.name r.desc) Form)
      → AllHold (member_checks still r (DescriptorNames (IsThere after) r.desc) (FindsMethod after r.class r.name r.desc) Still)
      → AllHold (member_checks now r (DescriptorNames (IsThere after) r.desc) (FindsMethod after r.class r.name r.desc) Other)
  method_passes r Form Still Other is_open fits asked held =
      member_passes r (DescriptorNames (IsThere after) r.desc) (FindsMethod after r.class r.name r.desc) Still Other is_open.class fits accessible held where
        accessible : (member : Declared) → FindsMethod after r.class r.name r.desc (Some member) → IsAccessible after site.class r.class member
        accessible member finds =
            subst (IsAccessible after site.class r.class)
            (same_Some method.0 member
            (laws.one_method after r.class r.name r.desc (Some method.0) (Some member)
            (laws.methods before after r.class r.name r.desc method.0 grown method.1) finds))
            (laws.method_access before after site.class r.class method.0 grown (by (is_open.member method.0 method.1))) where
              method : (method : Declared) × FindsMethod before r.class r.name r.desc (Some method)
              method = asked.1.1.0

              by : IsOpenMethod site.class r.class method.0 → IsAccessible before site.class r.class method.0
              by (public_method public unprotected) = is_public public
              by (package_method by_package same) = in_package by_package same
              by (clone_of_array array clone) = is_clone_of_array array clone

  -- ---- constants that were added

  module _ (index : ℕ) (means : Means old index pool (index_of_last pool (needs_at old index))) where
    abbrev other : ℕ
    other = index_of_last pool (needs_at old index)

    nothing : needs_at old index ≡ [] → constant_at pool other ≡ None
    nothing e = rw (e) first

    -- what an index of a member means: a member in both pools, or nothing in the new one
    data IsMember (kind : MemberKind) (class member : ℕ) : Type 0 where
      is_named : (r : Reference)
          → reference_at old class member ≡ Some r
          → NamesMember pool other kind r.class r.name r.desc
          → IsMember kind class member
      is_none : constant_at pool other ≡ None → IsMember kind class member

    member_is : (kind : MemberKind) (class member : ℕ) → constant_at old index ≡ Some (reference_of_kind kind class member) → IsMember kind class member
    member_is kind class member is = by (class_at old class) refl (name_at old member) refl (descriptor_at old member) refl where
      no_class : class_at old class ≡ None → needs_at old index ≡ []
      no_class none = of_kind kind is where
        of_kind : (k : MemberKind) → constant_at old index ≡ Some (reference_of_kind k class member) → needs_at old index ≡ []
        of_kind of_field e = rw (e, none) refl
        of_kind of_method e = rw (e, none) refl
        of_kind of_interface_method e = rw (e, none) refl

      no_name : (c : Name) → class_at old class ≡ Some c → name_at old member ≡ None → needs_at old index ≡ []
      no_name c has none = of_kind kind is where
        of_kind : (k : MemberKind) → constant_at old index ≡ Some (reference_of_kind k class member) → needs_at old index ≡ []
        of_kind of_field e = rw (e, has, none) refl
        of_kind of_method e = rw (e, has, none) refl
        of_kind of_interface_method e = rw (e, has, none) refl

      no_desc : (c : Name) (n : List ℕ) → class_at old class ≡ Some c → name_at old member ≡ Some n → descriptor_at old member ≡ None → needs_at old index ≡ []
      no_desc c n has also none = of_kind kind is where
        of_kind : (k : MemberKind) → constant_at old index ≡ Some (reference_of_kind k class member) → needs_at old index ≡ []
        of_kind of_field e = rw (e, has, also, none) refl
        of_kind of_method e = rw (e, has, also, none) refl
        of_kind of_interface_method e = rw (e, has, also, none) refl

      by : (c : Option Name) → class_at old class ≡ c → (n : Option (List ℕ)) → name_at old member ≡ n
          → (d : Option (List ℕ)) → descriptor_at old member ≡ d
          → IsMember kind class member
      by None ic n in_ d id = is_none (nothing (no_class ic))
      by (Some c) ic None in_ d id = is_none (nothing (no_name c ic in_))
      by (Some c) ic (Some n) in_ None id = is_none (nothing (no_desc c n ic in_ id))
      by (Some c) ic (Some n) in_ (Some d) id =
          is_named (record { class = c; name = n; desc = d }) (rw (ic, in_, id) refl) (means.member kind class member c n d is ic in_ id)

    -- the reference that it has there
    read : (kind : MemberKind) (r : Reference) (there : NamesMember pool other kind r.class r.name r.desc) → reference_at pool there.of_class there.named ≡ Some r
    read kind r there = rw (there.class_is, there.name_is, there.desc_is) refl

    -- ---- fields

    field_moved : (Form : Declared → Type 0) → IsFieldConstant (constant_at old index)
        → ((r : Reference) → reference_of old (constant_at old index) ≡ Some r → IsOpenFieldReference before site.class r)
        → ((r : Reference) → reference_of old (constant_at old index) ≡ Some r → AllHold (field_use_checks was Form r) → OpensField r)
        → AllHold (fieldref_use_checks was Form (constant_at old index))
        → AllHold (fieldref_use_checks still Form (constant_at old index))
        → AllHold (fieldref_use_checks now Form (constant_at pool other))
    field_moved Form fits is_open opens asked held = by (constant_at old index) refl fits where
      of_member : (class member : ℕ) → constant_at old index ≡ Some (consts.Fieldref class member) → IsMember of_field class member
          → AllHold (fieldref_use_checks now Form (constant_at pool other))
      of_member class member is (is_none none) = rw (none) tt
      of_member class member is (is_named r known there) =
          let named : reference_of old (constant_at old index) ≡ Some r = rw (is, known) refl in
          let asked_it : AllHold (field_use_checks was Form r) = rw (is, known) at asked in
          let held_it : AllHold (field_use_checks still Form r) = rw (is, known) at held in
          let again = read of_field r there in
          rw (there.is, again) (field_passes r Form (is_open r named) (opens r named asked_it) asked_it held_it)

      by : (found : Option Const) → constant_at old index ≡ found → IsFieldConstant found → AllHold (fieldref_use_checks now Form (constant_at pool other))
      by (Some (consts.Fieldref class member)) is field = of_member class member is (member_is of_field class member is)
      by found is field = elim field [ ]

    -- ---- methods

    class_fits : (opcode a b c d : ℕ) (r : Reference) (method : Declared) → FitsCall after opcode (Some (consts.Methodref a b)) r method
        → FitsCall after opcode (Some (consts.Methodref c d)) r method
    class_fits opcode a b c d r method fits = record {
      of_static = fits.of_static;
      of_instance = fits.of_instance;
      kind = fits.kind;
      initialiser = fits.initialiser;
      no_private = fits.no_private;
    }

    interface_fits : (opcode a b c d : ℕ) (r : Reference) (method : Declared) → FitsCall after opcode (Some (consts.InterfaceMethodref a b)) r method
        → FitsCall after opcode (Some (consts.InterfaceMethodref c d)) r method
    interface_fits opcode a b c d r method fits = record {
      of_static = fits.of_static;
      of_instance = fits.of_instance;
      kind = fits.kind;
      initialiser = fits.initialiser;
      no_private = fits.no_private;
    }

    method_moved : (opcode : ℕ) → IsMethodConstant (constant_at old index) ⊎ IsInterfaceConstant (constant_at old index)
        → ((r : Reference) → reference_of old (constant_at old index) ≡ Some r → IsOpenMethodReference before site.class r)
        → AllHold (methodref_use_checks was (FitsCall before opcode (constant_at old index)) (constant_at old index))
        → AllHold (methodref_use_checks still (FitsCall after opcode (constant_at old index)) (constant_at old index))
        → AllHold (methodref_use_checks now (FitsCall after opcode (constant_at pool other)) (constant_at pool other))
    method_moved opcode fits is_open asked held = by (constant_at old index) refl fits where
      of_class : (class member : ℕ) → constant_at old index ≡ Some (consts.Methodref class member) → IsMember of_method class member
          → AllHold (methodref_use_checks now (FitsCall after opcode (constant_at pool other)) (constant_at pool other))
      of_class class member is (is_none none) = rw (none) tt
      of_class class member is (is_named r known there) =
          let named : reference_of old (constant_at old index) ≡ Some r = rw (is, known) refl in
          let again = read of_method r there in
          rw (there.is, again)
          (method_passes r (FitsCall before opcode (Some (consts.Methodref class member)) r) (FitsCall after opcode (Some (consts.Methodref class member)) r)
          (FitsCall after opcode (Some (consts.Methodref there.of_class there.named)) r) (is_open r named)
          (λ method fits. class_fits opcode class member there.of_class there.named r method fits) (rw (is, known) at asked) (rw (is, known) at held))

      of_interface : (class member : ℕ) → constant_at old index ≡ Some (consts.InterfaceMethodref class member) → IsMember of_interface_method class member
          → AllHold (methodref_use_checks now (FitsCall after opcode (constant_at pool other)) (constant_at pool other))
      of_interface class member is (is_none none) = rw (none) tt
      of_interface class member is (is_named r known there) =
          let named : reference_of old (constant_at old index) ≡ Some r = rw (is, known) refl in
          let again = read of_interface_method r there in
          rw (there.is, again)
          (method_passes r (FitsCall before opcode (Some (consts.InterfaceMethodref class member)) r) (FitsCall after opcode (Some (consts.InterfaceMethodref class member)) r)
          (FitsCall after opcode (Some (consts.InterfaceMethodref there.of_class there.named)) r) (is_open r named)
          (λ method fits. interface_fits opcode class member there.of_class there.named r method fits) (rw (is, known) at asked) (rw (is, known) at held))

      by : (found : Option Const) → constant_at old index ≡ found → IsMethodConstant found ⊎ IsInterfaceConstant found
          → AllHold (methodref_use_checks now (FitsCall after opcode (constant_at pool other)) (constant_at pool other))
      by (Some (consts.Methodref class member)) is method = of_class class member is (member_is of_method class member is)
      by (Some (consts.InterfaceMethodref class member)) is method = of_interface class member is (member_is of_interface_method class member is)
      by found is method = elim method [ inl of_class_none ↦ elim of_class_none [ ] | inr of_interface_none ↦ elim of_interface_none [ ] ]

    -- ---- classes

    class_same : IsClassAt old index → class_at pool other ≡ class_at old index
    class_same is = class_meant old index pool means first is

    -- ---- what is loaded

    loaded_moved : IsLoadable (constant_at old index) → IsNoHandle (constant_at old index) → IsOpenConstant scope site.class index (constant_at old index)
        → AllHold (loaded_checks still index (constant_at old index))
        → AllHold (loaded_checks now other (constant_at pool other))
    loaded_moved = by (constant_at old index) refl where
      by : (found : Option Const) → constant_at old index ≡ found → IsLoadable found → IsNoHandle found → IsOpenConstant scope site.class index found
          → AllHold (loaded_checks still index found)
          → AllHold (loaded_checks now other (constant_at pool other))
      by (Some (consts.Integer number)) is fits plain is_open held = let there = means.number (consts.Integer number) tt is in rw (there) tt
      by (Some (consts.Float bits)) is fits plain is_open held = let there = means.number (consts.Float bits) tt is in rw (there) tt
      by (Some (consts.String text)) is fits plain is_open held = of_text (utf8_at old text) refl where
        of_text : (found : Option (List ℕ)) → utf8_at old text ≡ found → AllHold (loaded_checks now other (constant_at pool other))
        of_text None none = let gone = nothing (rw (is, none) refl) in rw (gone) tt
        of_text (Some bytes) some = let there = means.string text bytes is some in rw (there.is) tt
      by (Some (consts.Class text)) is fits plain is_open held = of_text (utf8_at old text) refl where
        of_text : (found : Option (List ℕ)) → utf8_at old text ≡ found → AllHold (loaded_checks now other (constant_at pool other))
        of_text None none = let gone = nothing (rw (is, none) refl) in rw (gone) tt
        of_text (Some name) some =
            let there : class_at old index ≡ Some name = rw (is, some) refl in
            let known = class_named pool other name (means.class name there) in
            let named = means.class name there in
            rw (known.is_class) (rw (named) (class_passes name (is_open name there) (rw (there) at held)))
      by (Some (consts.MethodHandle kind reference)) is fits plain is_open held = elim plain [ ]
      by (Some (consts.MethodType desc)) is fits plain is_open held = elim plain [ ]
      by found is fits plain is_open held = elim fits [ ]

  -- ---- instructions

  -- a private field that it reads, or stores into, is open to the host's class
  abbrev OpensAt : ℕ → Type 0
  OpensAt index = (r : Reference) → reference_of old (constant_at old index) ≡ Some r → OpensField r

  abbrev pub OpensFor : Instr → Type 0
  OpensFor (GetField index) = OpensAt index
  OpensFor (PutField index) = OpensAt index
  OpensFor instr = Unit {0}

  -- a static field is none that is opened
  static_opens : (r : Reference) → AllHold (field_use_checks was IsStaticForm r) → OpensField r
  static_opens r asked = λ field found finds finds_also same private instance of_folder package_same.
      absurd (both_ways (has field.member.flags STATIC) instance (asked.1.1.1.0 field finds))

  abbrev MeansAt : ℕ → Type 0
  MeansAt index = Means old index pool (index_of_last pool (needs_at old index))

  called : (major opcode index count : ℕ) → IsCalled old major opcode index count
      → IsMethodConstant (constant_at old index) ⊎ IsInterfaceConstant (constant_at old index)
  called major opcode index count is = elim is [
    | inl virtual ↦ inl virtual.1
    | inr other ↦ elim other [
      | inl interface ↦ inr interface.1
      | inr special ↦ elim special.1 [
        | inl method ↦ inl method
        | inr of_interface ↦ inr of_interface.1
      ]
    ]
  ]

  -- an instruction of the other class, with the index that means the same
  pub foreign_passes : (locals : ℕ) (instr : Instr) → OperandFits old scope.class.major locals instr → IsCarriable old instr
      → ((index : ℕ) → named_index instr ≡ Some index → MeansAt index)
      → NamesOpen scope site.class instr
      → OpensFor instr
      → AllHold (instr_use_checks was instr)
      → AllHold (instr_use_checks now (with_index (index_of_last pool (needs_of_index old (named_index instr))) instr))
  foreign_passes locals instr fits may meaning is_open opens asked = by instr fits may meaning is_open opens asked held where
    held : AllHold (instr_use_checks still instr)
    held = laws.linked before after scope.class scope.class locals instr was.site grown is_file (laws.itself scope.class) fits asked

    by : (instr : Instr) → OperandFits old scope.class.major locals instr → IsCarriable old instr
        → ((index : ℕ) → named_index instr ≡ Some index → MeansAt index)
        → NamesOpen scope site.class instr
        → OpensFor instr
        → AllHold (instr_use_checks was instr)
        → AllHold (instr_use_checks still instr)
        → AllHold (instr_use_checks now (with_index (index_of_last pool (needs_of_index old (named_index instr))) instr))
    by (Ldc index) fits may means is_open opens asked held = loaded_moved index (means index refl) fits may is_open held
    by (Ldc2 index) fits may means is_open opens asked held = tt
    by (GetStatic index) fits may means is_open opens asked held =
        field_moved index (means index refl) IsStaticForm fits is_open (λ r is it. static_opens r it) asked held
    by (PutStatic index) fits may means is_open opens asked held =
        field_moved index (means index refl) IsStaticForm fits is_open (λ r is it. static_opens r it) asked held
    by (GetField index) fits may means is_open opens asked held =
        field_moved index (means index refl) IsInstanceForm fits is_open (λ r is it. opens r is) asked held
    by (PutField index) fits may means is_open opens asked held =
        field_moved index (means index refl) IsInstanceForm fits is_open (λ r is it. opens r is) asked held
    by (Invoke opcode index count) fits may means is_open opens asked held =
        method_moved index (means index refl) opcode (called scope.class.major opcode index count fits) is_open asked held
    by (Dynamic index) fits may means is_open opens asked held = elim may [ ]
    by (New index) fits may means is_open opens asked held =
        new_moved index (index_of_last pool (needs_at old index)) (class_same index (means index refl) fits) is_open held
    by (NewRefArray index) fits may means is_open opens asked held =
        class_moved index (index_of_last pool (needs_at old index)) (class_same index (means index refl) fits.0) is_open held
    by (NewMulti index dimensions) fits may means is_open opens asked held =
        class_moved index (index_of_last pool (needs_at old index)) (class_same index (means index refl) fits.0) is_open held
    by (Cast index) fits may means is_open opens asked held =
        class_moved index (index_of_last pool (needs_at old index)) (class_same index (means index refl) fits) is_open held
    by (InstanceOf index) fits may means is_open opens asked held =
        class_moved index (index_of_last pool (needs_at old index)) (class_same index (means index refl) fits) is_open held
    by _ fits may means is_open opens asked held = tt
