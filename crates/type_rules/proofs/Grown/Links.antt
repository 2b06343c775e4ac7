-- What linking asks of the instructions, handlers and stated frames of a method holds in classes that have grown.
use Rattle.std.proofs.Common.{◌≡◌, ◌++◌, ◌∙◌, ◌==◌, ℕ, Bool, true, false, List, [], ◌∷◌, Option, Some, None, IfSome, Result, Ok, Err, refl, sym, ap, subst, inl, inr}
use Rattle.std.specs.List.{AllByRecursion}
use Rattle.std.proofs.lemmas.Bool.{false≢true}
use Rattle.class_model.specs.Checks.{AllHold, Fault, asked_each}
use Rattle.class_model.specs.Code.{IsDynamicConstant, IsLoadable, OperandFits}
use Rattle.class_model.specs.Laws.Checks.{both_hold, first_holds, others_hold}
use Rattle.class_model.specs.Laws.Lists.{AllByRecursion-weaker}
use Rattle.class_model.specs.Members.{has, ABSTRACT, STATIC}
use Rattle.class_model.specs.Pool.{Constants, constant_at}
use Rattle.class_model.specs.PoolChecks.{IsClassAt, IsFieldConstant, class_at, descriptor_at, entries_checks, utf8_at}
use Rattle.class_model.specs.declared.class_file.Handler.{Handler}
use Rattle.class_model.specs.declared.descriptor.FieldType.{FieldType}
use Rattle.class_model.specs.declared.descriptor.FieldType.TheVariants as field_types
use Rattle.class_model.specs.declared.frame.PlacedFrame.{PlacedFrame}
use Rattle.class_model.specs.declared.frame.VType.{VType}
use Rattle.class_model.specs.declared.frame.VType.TheVariants as types
use Rattle.class_model.specs.declared.header.Header.{Header}
use Rattle.class_model.specs.declared.instr.Instr.{Instr}
use Rattle.class_model.specs.declared.instr.Instr.TheVariants.{Ldc, GetStatic, PutStatic, GetField, PutField, Invoke, Dynamic, New, NewRefArray, NewMulti, Cast, InstanceOf}
use Rattle.class_model.specs.declared.instr.Placed.{Placed}
use Rattle.class_model.specs.declared.pool.Const.{Const}
use Rattle.class_model.specs.declared.pool.Const.TheVariants as consts
use Rattle.class_tree.specs.Headers.{Name, Headers, IsThere}
use Rattle.class_tree.specs.Laws.Alike.{alike_shapes, shapes, there_alike, twin}
use Rattle.class_tree.specs.Names.{is_interface}
use Rattle.code_bytes.specs.Codes.{HaveOperands}
use Rattle.member_link.specs.Access.{IsAccessible, IsClassAccessible}
use Rattle.member_link.specs.Declarations.{Site}
use Rattle.member_link.specs.DeclaredMembers.{Declared}
use Rattle.member_link.specs.Fields.{FindsField}
use Rattle.member_link.specs.Forms.{FitsCall, FitsKind, IsClassNamed, IsInstanceForm, IsInstantiable, IsInterfaceNamed, IsStaticForm}
use Rattle.member_link.specs.Methods.{FindsMethod}
use Rattle.member_link.specs.References.{DescriptorNames, FieldTypeNames, IsNamedAccessible, IsNamedThere, Reference, TypeNames, element_class, reference_at}
use Rattle.member_link.specs.Signatures.{reference_of}
use Rattle.member_link.specs.Uses.{HasAnyForm, UseScope, class_use_checks, dynamic_use_checks, field_use_checks, fieldref_use_checks, frame_checks, handle_use_checks, handler_use_checks, instr_use_checks, instrs_checks, loaded_checks, member_checks, method_use_checks, methodref_use_checks, named_class_checks, new_checks, type_checks}
use Rattle.type_rules.proofs.Grown.Codes.{IsAskedHandler}
use Rattle.type_rules.proofs.Grown.Flags.{static_stays}
use Rattle.type_rules.proofs.Grown.Headers.{field_after, field_before, grown_alike}
use Rattle.type_rules.proofs.Grown.Methods.{LooksUpAlike, class_accessible, field_accessible, member_accessible, method_after, method_once}
use Rattle.type_rules.proofs.Grown.Pools.{class_same, constant_same, desc_same, described_call, handle_refers, method_type_text, of_called, of_field, referred_same, referring_same}
use Rattle.type_rules.specs.Grown.{AreGrownHeaders, IsSameFound}

-- ---- what is asked of names

if_still : {A : Type 0} (P Q : A → Type 0) → ((x : A) → P x → Q x) → (o : Option A) → IfSome o P → IfSome o Q
if_still P Q to None h = h
if_still P Q to (Some x) h = to x h

type_still : (P Q : Name → Type 0) → ((name : Name) → P name → Q name) → (type : FieldType) → TypeNames P type → TypeNames Q type
type_still P Q to (field_types.Named name) h = if_still P Q to (element_class name) h
type_still P Q to field_types.Byte h = tt
type_still P Q to field_types.Char h = tt
type_still P Q to field_types.Short h = tt
type_still P Q to field_types.Bool h = tt
type_still P Q to field_types.Int h = tt
type_still P Q to field_types.Long h = tt
type_still P Q to field_types.Float h = tt
type_still P Q to field_types.Double h = tt

pub field_type_still : (P Q : Name → Type 0) → ((name : Name) → P name → Q name) → (text : List ℕ) → FieldTypeNames P text → FieldTypeNames Q text
field_type_still P Q to text h = λ type spelled. type_still P Q to type (h type spelled)

pub descriptor_still : (P Q : Name → Type 0) → ((name : Name) → P name → Q name) → (text : List ℕ) → DescriptorNames P text → DescriptorNames Q text
descriptor_still P Q to text h = λ descriptor spelled.
    let names = h descriptor spelled in (
      AllByRecursion-weaker (TypeNames P) (TypeNames Q) (type_still P Q to) descriptor.params names.0,
      if_still (TypeNames P) (TypeNames Q) (type_still P Q to) descriptor.result names.1,
    )

module _ (major : ℕ) (pool more : Constants) (place : ℕ) (hold : AllHold (entries_checks major pool place pool))
    (before after : Headers) (grown : AreGrownHeaders before after) (methods : LooksUpAlike before after) (site : Site) where
  abbrev pub then_uses : UseScope
  then_uses = record { headers = before; pool = pool; site = site }

  abbrev pub now_uses : UseScope
  now_uses = record { headers = after; pool = pool ++ more; site = site }

  same : shapes before ≡ shapes after
  same = alike_shapes before after (grown_alike before after grown)

  there : (name : Name) → IsThere before name → IsThere after name
  there name h = there_alike before after same name h

  reached : (name : Name) → IsClassAccessible before site.class name → IsClassAccessible after site.class name
  reached name h = class_accessible before after same h

  -- ---- classes

  named_there : (name : Name) → IsNamedThere before name → IsNamedThere after name
  named_there name h = if_still (IsThere before) (IsThere after) there (element_class name) h

  named_accessible : (name : Name) → IsNamedAccessible before site.class name → IsNamedAccessible after site.class name
  named_accessible name h = if_still (IsClassAccessible before site.class) (IsClassAccessible after site.class) reached (element_class name) h

  named_still : (name : Name) → AllHold (named_class_checks then_uses name) → AllHold (named_class_checks now_uses name)
  named_still name h = (named_there name h.0, (named_accessible name h.1.0, tt))

  pub class_still : (index : ℕ) → IsClassAt pool index → AllHold (class_use_checks then_uses index) → AllHold (class_use_checks now_uses index)
  class_still index is h = by (class_at pool index) refl where
    by : (o : Option Name) → class_at pool index ≡ o → AllHold (class_use_checks now_uses index)
    by None e = rw (class_same major pool more place hold index is, e) tt
    by (Some name) e = rw (class_same major pool more place hold index is, e) (named_still name (rw e at h))

  instantiable : (name : Name) → IsInstantiable before name → IsInstantiable after name
  instantiable name is =
      let class = twin before after same name is.header is.found in
      record {
        header = class.0;
        found = class.1;
        concrete = ap (λ (h : Header). has h.flags ABSTRACT) (sym class.2) ∙ is.concrete;
        no_interface = ap (λ (h : Header). is_interface h) (sym class.2) ∙ is.no_interface;
      }

  new_still : (index : ℕ) → IsClassAt pool index → AllHold (new_checks then_uses index) → AllHold (new_checks now_uses index)
  new_still index is h = by (class_at pool index) refl where
    by : (o : Option Name) → class_at pool index ≡ o → AllHold (new_checks now_uses index)
    by None e = rw (class_same major pool more place hold index is, e) tt
    by (Some name) e =
        let asked = rw e at h in
        rw (class_same major pool more place hold index is, e) (named_there name asked.0, (named_accessible name asked.1.0, (instantiable name asked.1.1.0, tt)))

  -- ---- members

  -- what is asked of one member, and of the one that is found in its place
  record Carries (reference : Reference) (Finds Now : Option Declared → Type 0) (Form Other : Declared → Type 0) : Type 0 where
    to : (member : Declared) → Finds (Some member) → (found : Declared) × Now (Some found)
    from : (found : Declared) → Now (Some found) → (member : Declared) × Finds (Some member) × (Form member → Other found)
        × (IsAccessible before site.class reference.class member → IsAccessible after site.class reference.class found)

  member_still : (reference : Reference) (There Too : Type 0) (Finds Now : Option Declared → Type 0) (Form Other : Declared → Type 0) → (There → Too)
      → ((member : Declared) → Finds (Some member) → Carries reference Finds Now Form Other)
      → AllHold (member_checks then_uses reference There Finds Form) → AllHold (member_checks now_uses reference Too Now Other)
  member_still reference There Too Finds Now Form Other too carries h =
      let first = h.1.1.0 in
      let carry = carries first.0 first.1 in (
        (named_there reference.class h.0.0, too h.0.1),
        (
          named_accessible reference.class h.1.0,
          (
            carry.to first.0 first.1,
            (
              (λ found finds. let was = carry.from found finds in was.2 (h.1.1.1.0 was.0 was.1)),
              ((λ found finds. let was = carry.from found finds in was.3 (h.1.1.1.1.0 was.0 was.1)), tt),
            ),
          ),
        ),
      )

  field_carries : (reference : Reference) (Form : Declared → Type 0) → ((old new : Declared) → IsSameFound old new → Form old → Form new)
      → Carries reference (FindsField before reference.class reference.name reference.desc) (FindsField after reference.class reference.name reference.desc) Form Form
  field_carries reference Form keeps = record {
    to = λ member finds. let found = field_after before after grown reference.name reference.desc reference.class member finds in (found.0, found.1);
    from = λ found finds.
        let was = field_before before after grown reference.name reference.desc reference.class found finds in
        (was.0, was.1, keeps was.0 found was.2, λ access. field_accessible after site.class reference.class was.0 found was.2 (member_accessible before after same access));
  }

  field_still : (reference : Reference) (Form : Declared → Type 0) → ((old new : Declared) → IsSameFound old new → Form old → Form new)
      → AllHold (field_use_checks then_uses Form reference) → AllHold (field_use_checks now_uses Form reference)
  field_still reference Form keeps h =
      member_still reference _ _ _ _ Form Form (field_type_still (IsThere before) (IsThere after) there reference.desc) (λ member finds. field_carries reference Form keeps) h

  static_same : (old new : Declared) → IsSameFound old new → has new.member.flags STATIC ≡ has old.member.flags STATIC
  static_same old new is = ap (λ (flags : ℕ). has flags STATIC) is.opened.flags ∙ static_stays old.member.flags is.opened.cleared

  static_form : (old new : Declared) → IsSameFound old new → IsStaticForm old → IsStaticForm new
  static_form old new is h = static_same old new is ∙ h

  instance_form : (old new : Declared) → IsSameFound old new → IsInstanceForm old → IsInstanceForm new
  instance_form old new is h = static_same old new is ∙ h

  -- a method that is found is the one that was found
  method_carries : (reference : Reference) (Form Other : Declared → Type 0) → ((method : Declared) → Form method → Other method) → (first : Declared)
      → FindsMethod before reference.class reference.name reference.desc (Some first)
      → Carries reference (FindsMethod before reference.class reference.name reference.desc) (FindsMethod after reference.class reference.name reference.desc) Form Other
  method_carries reference Form Other keeps first finds = record {
    to = λ member found. (member, method_after before after grown methods reference.class reference.name reference.desc member found);
    from = λ found now.
        (found, method_once before after grown methods reference.class reference.name reference.desc found first finds now, keeps found, λ access. member_accessible before after same access);
  }

  method_still : (reference : Reference) (Form Other : Reference → Declared → Type 0) → ((method : Declared) → Form reference method → Other reference method)
      → AllHold (method_use_checks then_uses Form reference) → AllHold (method_use_checks now_uses Other reference)
  method_still reference Form Other keeps h =
      member_still reference _ _ _ _ (Form reference) (Other reference) (descriptor_still (IsThere before) (IsThere after) there reference.desc)
      (λ member finds. method_carries reference (Form reference) (Other reference) keeps member finds) h

  -- ---- constants

  fieldref_still : (Form : Declared → Type 0) → ((old new : Declared) → IsSameFound old new → Form old → Form new) → (constant : Option Const)
      → reference_of (pool ++ more) constant ≡ reference_of pool constant
      → AllHold (fieldref_use_checks then_uses Form constant) → AllHold (fieldref_use_checks now_uses Form constant)
  fieldref_still Form keeps (Some (consts.Fieldref class member)) e h = by (reference_at pool class member) refl where
    by : (o : Option Reference) → reference_at pool class member ≡ o → AllHold (fieldref_use_checks now_uses Form (Some (consts.Fieldref class member)))
    by None f = rw (e ∙ f) tt
    by (Some reference) f = rw (e ∙ f) (field_still reference Form keeps (rw f at h))
  fieldref_still Form keeps constant e h = tt

  methodref_still : (Form Other : Reference → Declared → Type 0) → ((reference : Reference) (method : Declared) → Form reference method → Other reference method) → (constant : Option Const)
      → reference_of (pool ++ more) constant ≡ reference_of pool constant
      → AllHold (methodref_use_checks then_uses Form constant) → AllHold (methodref_use_checks now_uses Other constant)
  methodref_still Form Other keeps (Some (consts.Methodref class member)) e h = by (reference_at pool class member) refl where
    by : (o : Option Reference) → reference_at pool class member ≡ o → AllHold (methodref_use_checks now_uses Other (Some (consts.Methodref class member)))
    by None f = rw (e ∙ f) tt
    by (Some reference) f = rw (e ∙ f) (method_still reference Form Other (keeps reference) (rw f at h))
  methodref_still Form Other keeps (Some (consts.InterfaceMethodref class member)) e h = by (reference_at pool class member) refl where
    by : (o : Option Reference) → reference_at pool class member ≡ o → AllHold (methodref_use_checks now_uses Other (Some (consts.InterfaceMethodref class member)))
    by None f = rw (e ∙ f) tt
    by (Some reference) f = rw (e ∙ f) (method_still reference Form Other (keeps reference) (rw f at h))
  methodref_still Form Other keeps constant e h = tt

  fields_at : (Form : Declared → Type 0) → ((old new : Declared) → IsSameFound old new → Form old → Form new) → (index : ℕ) → IsFieldConstant (constant_at pool index)
      → AllHold (fieldref_use_checks then_uses Form (constant_at pool index)) → AllHold (fieldref_use_checks now_uses Form (constant_at (pool ++ more) index))
  fields_at Form keeps index is h =
      let refers = of_field major pool more place hold (constant_at pool index) is in
      subst (λ (c : Option Const). AllHold (fieldref_use_checks now_uses Form c)) (sym (referring_same major pool more place hold index refers))
      (fieldref_still Form keeps (constant_at pool index) (referred_same major pool more place hold index refers) h)

  any_form : (old new : Declared) → IsSameFound old new → HasAnyForm old → HasAnyForm new
  any_form old new is h = tt

  handle_still : (index kind reference : ℕ) → constant_at pool index ≡ Some (consts.MethodHandle kind reference)
      → AllHold (handle_use_checks then_uses (constant_at pool reference)) → AllHold (handle_use_checks now_uses (constant_at (pool ++ more) reference))
  handle_still index kind reference e h =
      let refers = handle_refers major pool more place hold index kind reference e in
      let constant = constant_at pool reference in
      let same_reference = referred_same major pool more place hold reference refers in
      let fields = fieldref_use_checks then_uses HasAnyForm constant in
      let calls = methodref_use_checks then_uses (λ r. HasAnyForm) constant in
      subst (λ (c : Option Const). AllHold (handle_use_checks now_uses c)) (sym (referring_same major pool more place hold reference refers))
      (both_hold (fieldref_use_checks now_uses HasAnyForm constant) (methodref_use_checks now_uses (λ r. HasAnyForm) constant)
      (fieldref_still HasAnyForm any_form constant same_reference (first_holds fields calls h))
      (methodref_still (λ r. HasAnyForm) (λ r. HasAnyForm) (λ r method held. tt) constant same_reference (others_hold fields calls h)))

  loaded_still : (index : ℕ) (o : Option Const) → constant_at pool index ≡ o → AllHold (loaded_checks then_uses index o) → AllHold (loaded_checks now_uses index o)
  loaded_still index (Some (consts.Class name)) e h = class_still index (rw e refl) h
  loaded_still index (Some (consts.MethodHandle kind reference)) e h = handle_still index kind reference e h
  loaded_still index (Some (consts.MethodType desc)) e h = by (utf8_at pool desc) refl where
    by : (o : Option (List ℕ)) → utf8_at pool desc ≡ o → AllHold (loaded_checks now_uses index (Some (consts.MethodType desc)))
    by None f = rw (method_type_text major pool more place hold index desc e, f) tt
    by (Some text) f =
        let asked = rw f at h in
        rw (method_type_text major pool more place hold index desc e, f) (
          descriptor_still (IsThere before) (IsThere after) there text asked.0,
          (descriptor_still (IsClassAccessible before site.class) (IsClassAccessible after site.class) reached text asked.1.0, tt),
        )
  loaded_still index o e h = tt

  dynamic_still : (index : ℕ) (o : Option Const) → constant_at pool index ≡ o → AllHold (dynamic_use_checks then_uses o) → AllHold (dynamic_use_checks now_uses o)
  dynamic_still index (Some (consts.InvokeDynamic bootstrap member)) e h = by (descriptor_at pool member) refl where
    same_desc : descriptor_at (pool ++ more) member ≡ descriptor_at pool member
    same_desc = desc_same major pool more place hold member (described_call major pool more place hold index bootstrap member e)

    by : (o : Option (List ℕ)) → descriptor_at pool member ≡ o → AllHold (dynamic_use_checks now_uses (Some (consts.InvokeDynamic bootstrap member)))
    by None f = rw (same_desc, f) tt
    by (Some text) f = rw (same_desc, f) (descriptor_still (IsThere before) (IsThere after) there text (rw f at h).0, tt)
  dynamic_still index o e h = tt

  -- ---- the form of a call

  interface_named : (name : Name) → IsInterfaceNamed before name → IsInterfaceNamed after name
  interface_named name (header, found, is) =
      let class = twin before after same name header found in
      (class.0, class.1, ap (λ (h : Header). is_interface h) (sym class.2) ∙ is)

  class_named_still : (name : Name) → IsClassNamed before name → IsClassNamed after name
  class_named_still name is = λ header found.
      let class = twin after before (sym same) name header found in
      ap (λ (h : Header). is_interface h) class.2 ∙ is class.0 class.1

  kind_still : (constant : Option Const) (name : Name) → FitsKind before constant name → FitsKind after constant name
  kind_still (Some (consts.InterfaceMethodref class member)) name is = interface_named name is
  kind_still constant name is = class_named_still name is

  call_still : (opcode : ℕ) (constant : Option Const) (reference : Reference) (method : Declared) → FitsCall before opcode constant reference method → FitsCall after opcode constant reference method
  call_still opcode constant reference method fits = record {
    of_static = fits.of_static;
    of_instance = fits.of_instance;
    kind = kind_still constant reference.class fits.kind;
    initialiser = fits.initialiser;
    no_private = fits.no_private;
  }

  -- ---- instructions

  pub instr_still : (max_locals : ℕ) (instr : Instr) → OperandFits pool major max_locals instr → AllHold (instr_use_checks then_uses instr) → AllHold (instr_use_checks now_uses instr)
  instr_still max_locals (Ldc index) fits h =
      subst (λ (c : Option Const). AllHold (loaded_checks now_uses index c)) (sym (constant_same major pool more place hold IsLoadable index (λ h. h) fits))
      (loaded_still index (constant_at pool index) refl h)
  instr_still max_locals (GetStatic index) fits h = fields_at IsStaticForm static_form index fits h
  instr_still max_locals (PutStatic index) fits h = fields_at IsStaticForm static_form index fits h
  instr_still max_locals (GetField index) fits h = fields_at IsInstanceForm instance_form index fits h
  instr_still max_locals (PutField index) fits h = fields_at IsInstanceForm instance_form index fits h
  instr_still max_locals (Invoke opcode index count) fits h =
      let refers = of_called major pool more place hold major opcode index count fits in
      let constant = constant_at pool index in
      subst (λ (c : Option Const). AllHold (methodref_use_checks now_uses (FitsCall after opcode c) c)) (sym (referring_same major pool more place hold index refers))
      (methodref_still (FitsCall before opcode constant) (FitsCall after opcode constant) (call_still opcode constant) constant (referred_same major pool more place hold index refers) h)
  instr_still max_locals (Dynamic index) fits h =
      subst (λ (c : Option Const). AllHold (dynamic_use_checks now_uses c)) (sym (constant_same major pool more place hold IsDynamicConstant index (λ h. h) fits))
      (dynamic_still index (constant_at pool index) refl h)
  instr_still max_locals (New index) fits h = new_still index fits h
  instr_still max_locals (NewRefArray index) fits h = class_still index fits.0 h
  instr_still max_locals (NewMulti index dimensions) fits h = class_still index fits.0 h
  instr_still max_locals (Cast index) fits h = class_still index fits h
  instr_still max_locals (InstanceOf index) fits h = class_still index fits h
  instr_still max_locals instr fits h = tt

  instrs_still : (max_locals : ℕ) (instrs : List Placed) → AllByRecursion (λ placed. OperandFits pool major max_locals placed.instr) instrs
      → AllHold (asked_each (λ placed. instr_use_checks then_uses placed.instr) instrs) → AllHold (asked_each (λ placed. instr_use_checks now_uses placed.instr) instrs)
  instrs_still max_locals [] fit h = tt
  instrs_still max_locals (placed ∷ instrs) fit h =
      let asks = instr_use_checks then_uses placed.instr in
      let others = asked_each (λ (p : Placed). instr_use_checks then_uses p.instr) instrs in
      both_hold (instr_use_checks now_uses placed.instr) (asked_each (λ (p : Placed). instr_use_checks now_uses p.instr) instrs)
      (instr_still max_locals placed.instr fit.0 (first_holds asks others h)) (instrs_still max_locals instrs fit.1 (others_hold asks others h))

  -- ---- handlers and stated frames

  handler_still : (handler : Handler) → IsAskedHandler pool handler → AllHold (handler_use_checks then_uses handler) → AllHold (handler_use_checks now_uses handler)
  handler_still handler is h = by (handler.catch_type == 0) refl is where
    by : (b : Bool) → (handler.catch_type == 0) ≡ b → IsAskedHandler pool handler → AllHold (handler_use_checks now_uses handler)
    by true e is = rw e tt
    by false e (inl zero_is) = absurd (false≢true (sym e ∙ ap (λ (n : ℕ). n == 0) zero_is))
    by false e (inr there) = rw e (class_still handler.catch_type there (rw e at h))

  pub handlers_still : (handlers : List Handler) → AllByRecursion (IsAskedHandler pool) handlers → AllHold (asked_each (handler_use_checks then_uses) handlers)
      → AllHold (asked_each (handler_use_checks now_uses) handlers)
  handlers_still [] are h = tt
  handlers_still (handler ∷ handlers) are h =
      let asks = handler_use_checks then_uses handler in
      let others = asked_each (handler_use_checks then_uses) handlers in
      both_hold (handler_use_checks now_uses handler) (asked_each (handler_use_checks now_uses) handlers) (handler_still handler are.0 (first_holds asks others h))
      (handlers_still handlers are.1 (others_hold asks others h))

  types_still : (entries : List VType) → AllHold (asked_each (type_checks then_uses) entries) → AllHold (asked_each (type_checks now_uses) entries)
  types_still [] h = tt
  types_still (types.Object name ∷ entries) h = (named_there name h.0, types_still entries h.1)
  types_still (types.Top ∷ entries) h = types_still entries h
  types_still (types.Int ∷ entries) h = types_still entries h
  types_still (types.Float ∷ entries) h = types_still entries h
  types_still (types.Long ∷ entries) h = types_still entries h
  types_still (types.Double ∷ entries) h = types_still entries h
  types_still (types.Null ∷ entries) h = types_still entries h
  types_still (types.UninitThis ∷ entries) h = types_still entries h
  types_still (types.Uninit at ∷ entries) h = types_still entries h

  frame_still : (placed : PlacedFrame) → AllHold (frame_checks then_uses placed) → AllHold (frame_checks now_uses placed)
  frame_still placed h =
      let locals = asked_each (type_checks then_uses) placed.frame.locals in
      let stack = asked_each (type_checks then_uses) placed.frame.stack in
      both_hold (asked_each (type_checks now_uses) placed.frame.locals) (asked_each (type_checks now_uses) placed.frame.stack)
      (types_still placed.frame.locals (first_holds locals stack h)) (types_still placed.frame.stack (others_hold locals stack h))

  pub frames_still : (frames : List PlacedFrame) → AllHold (asked_each (frame_checks then_uses) frames) → AllHold (asked_each (frame_checks now_uses) frames)
  frames_still [] h = tt
  frames_still (placed ∷ frames) h =
      let asks = frame_checks then_uses placed in
      let others = asked_each (frame_checks then_uses) frames in
      both_hold (frame_checks now_uses placed) (asked_each (frame_checks now_uses) frames) (frame_still placed (first_holds asks others h)) (frames_still frames (others_hold asks others h))

  pub code_still : (max_locals : ℕ) (read : Result (List Placed) Fault) → HaveOperands pool major max_locals read → AllHold (instrs_checks then_uses read) → AllHold (instrs_checks now_uses read)
  code_still max_locals (Ok instrs) fit h = instrs_still max_locals instrs fit h
  code_still max_locals (Err fault) fit h = tt
