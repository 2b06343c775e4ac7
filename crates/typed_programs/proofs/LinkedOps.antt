use Rattle.std.specs.Prelude.{◌≡◌, ◌≢◌, ◌⊎◌, refl, ℕ, Bool, true, false, List, Option, Some, None, IsSome, option_map, if◌then◌else◌}
use Rattle.std.proofs.Common.{arith, inl, inr, sym, ◌∙◌, subst}
use Rattle.class_model.specs.Checks.{AllHold}
use Rattle.class_model.specs.Code.{IsLoadable, IsLoadable2, IsCalled}
use Rattle.class_model.specs.Descriptors.{kind_of}
use Rattle.class_model.specs.Names.{clinit, init}
use Rattle.class_model.specs.Pool.{Constants, constant_at}
use Rattle.class_model.specs.PoolChecks.{utf8_at, class_at, IsClassAt, IsFieldConstant, IsMethodConstant, IsMethodConstantOf, IsInterfaceConstant, IsMethodDescriptor, ReturnsVoid, RefersWell}
use Rattle.class_model.specs.declared.descriptor.Kind.{Kind}
use Rattle.class_model.specs.declared.frame.Frame.{Frame}
use Rattle.class_model.specs.declared.opcodes.TheConstants.{INVOKEVIRTUAL, INVOKESPECIAL, INVOKESTATIC, INVOKEINTERFACE}
use Rattle.class_model.specs.declared.pool.Const.{Const}
use Rattle.class_model.specs.declared.pool.Const.TheVariants as consts
use Rattle.class_model.specs.declared.header.Header.{Header}
use Rattle.class_tree.specs.Headers.{Name, Headers, class_named}
use Rattle.class_tree.specs.Names.{method_handle, method_type}
use Rattle.machine_values.specs.declared.object.Constant.TheVariants as objects
use Rattle.member_link.specs.BodyTyping.{RowHolds}
use Rattle.member_link.specs.DeclaredMembers.{Declared}
use Rattle.member_link.specs.Forms.{IsStaticForm, IsInstanceForm, FitsCall}
use Rattle.member_link.specs.LinkedPlaces.{ClassPasses, FieldPasses, MethodPasses}
use Rattle.member_link.specs.Machine.Codes.{constant_op, handle_of, or_meaningless, return_op, same_kind, call_op}
use Rattle.member_link.specs.Machine.Ops.{Op, meaningless, push_constant, return_value}
use Rattle.member_link.specs.Machine.Programs.{Program, Links, headers_in}
use Rattle.member_link.specs.References.{Reference, IsNamedThere}
use Rattle.member_link.specs.RowScope.{RowScope}
use Rattle.member_link.specs.Rows.MemberRows.{MayReturn, return_row}
use Rattle.member_link.specs.Rows.Row.{access_aside}
use Rattle.member_link.specs.Signatures.{reference_of, result_of}
use Rattle.member_link.specs.Uses.{UseScope, fieldref_use_checks, methodref_use_checks, field_use_checks, method_use_checks, asked_of_reference, named_class_checks, class_use_checks}
use Rattle.typed_programs.proofs.KnownRows.{kind_is_same}
use Rattle.typed_programs.proofs.PoolNames.{HoldsEach, some_there, class_text, reference_text}
use Rattle.typed_programs.proofs.VoidResults.{ParametersSpelled, void_result}
use Rattle.typed_runs.specs.LinkedCalls.{IsLinkedSpecial}
use Rattle.typed_runs.specs.LinkedInstrs.{IsLinkedAt}
use Rattle.typed_runs.specs.TypedPoints.{IsOfLibrary, HasField, HasMethod}
use Rattle.typed_runs.specs.TypedPrograms.{HasBase}

-- what the laws of linking say of references
pub record ReferenceLaws : Type 0 where
  pub named_class : (s : UseScope) (name : Name) → AllHold (named_class_checks s name) → ClassPasses s name
  pub static_field : (s : UseScope) (r : Reference) → AllHold (field_use_checks s IsStaticForm r) → FieldPasses s IsStaticForm r
  pub instance_field : (s : UseScope) (r : Reference) → AllHold (field_use_checks s IsInstanceForm r) → FieldPasses s IsInstanceForm r
  pub call : (s : UseScope) (opcode : ℕ) (constant : Option Const) (r : Reference)
      → AllHold (method_use_checks s (FitsCall s.headers opcode constant) r) → MethodPasses s (FitsCall s.headers opcode constant) r
  pub parameters : ParametersSpelled

-- ---- operations

module _ (Q : Program) (s : RowScope) (place : ℕ) where
  pub tested : (b : Bool) (op : Op) → b ≡ true → IsLinkedAt Q s place op → IsLinkedAt Q s place (if b then op else meaningless)
  tested true op e linked = linked
  tested false op e linked = absurd cc

  pub found : {A : Type 0} (o : Option A) (a : A) (op : A → Op) → o ≡ Some a → IsLinkedAt Q s place (op a)
      → IsLinkedAt Q s place (or_meaningless (option_map op o))
  found o a op e linked = subst (λ x. IsLinkedAt Q s place (or_meaningless (option_map op x))) (sym e) linked

  pub return_linked : (frame : Frame) (kind : Option Kind) → RowHolds s frame (access_aside (return_row s frame kind))
      → IsLinkedAt Q s place (return_op s.result kind)
  return_linked frame None holds =
      let may : MayReturn s frame = holds.further in
      subst (λ r. IsLinkedAt Q s place (return_op r None)) (sym may.no_result) (record { linked = may.no_result; call = tt })
  return_linked frame (Some kind) holds =
      let may = holds.further in
      subst (λ r. IsLinkedAt Q s place (return_op r (Some kind))) (sym may.is_result)
      (tested (same_kind (kind_of may.type) kind) (return_value may.type)
      (subst (λ k. same_kind (kind_of may.type) k ≡ true) may.same_kind (kind_is_same (kind_of may.type)))
      (record { linked = may.is_result; call = tt }))

-- what is known of the class file and the program around an instruction
pub record Around (Q : Program) (headers : Headers) (major : ℕ) (pool : Constants) (own : Header) : Type 0 where
  pub same : headers_in Q ≡ headers
  pub base : HasBase Q
  pub own_named : class_named headers own.name ≡ Some own
  pub each : HoldsEach major pool
  pub handles : (index kind reference : ℕ) → constant_at pool index ≡ Some (consts.MethodHandle kind reference)
      → IsOfLibrary Q method_handle
  pub types : (index desc : ℕ) → constant_at pool index ≡ Some (consts.MethodType desc) → IsOfLibrary Q method_type

module _ (laws : ReferenceLaws) (Q : Program) (s : RowScope) (place : ℕ) (us : UseScope) (major : ℕ)
    (around : Around Q us.headers major us.pool s.own) where
  -- ---- constants

  pub text_linked : (o : Option (List ℕ)) (op : List ℕ → Op) → IsSome o → ((t : List ℕ) → IsLinkedAt Q s place (op t))
      → IsLinkedAt Q s place (or_meaningless (option_map op o))
  text_linked o op there linked = let t = some_there o there in found Q s place o t.0 op t.1 (linked t.0)

  pub refers : (c : Option Const) → (IsFieldConstant c ⊎ (IsMethodConstant c ⊎ IsInterfaceConstant c)) → (index : ℕ)
      → constant_at us.pool index ≡ c → (r : Reference) × (reference_of us.pool c ≡ Some r)
  refers (Some (consts.Fieldref class member)) is index e = let t = (around.each index (consts.Fieldref class member) e).1.0 in let r =
      reference_text major us.pool around.each class member t.0 t.1 in (r.reference, r.is)
  refers (Some (consts.Methodref class member)) is index e = let t = (around.each index (consts.Methodref class member) e).1.0 in let r =
      reference_text major us.pool around.each class member t.0 t.1 in (r.reference, r.is)
  refers (Some (consts.InterfaceMethodref class member)) is index e =
      let t = (around.each index (consts.InterfaceMethodref class member) e).1.0 in let r = reference_text major us.pool around.each class
      member t.0 t.1 in (r.reference, r.is)
  refers None (inl is) index e = absurd is
  refers None (inr (inl is)) index e = absurd is
  refers None (inr (inr is)) index e = absurd is
  refers (Some c) (inl is) index e = absurd is
  refers (Some c) (inr (inl is)) index e = absurd is
  refers (Some c) (inr (inr is)) index e = absurd is

  handle_refers : (kind reference : ℕ) → RefersWell major us.pool kind reference
      → IsFieldConstant (constant_at us.pool reference) ⊎ (IsMethodConstant (constant_at us.pool reference) ⊎ IsInterfaceConstant
      (constant_at us.pool reference))
  handle_refers kind reference (inl is) = inl is.2
  handle_refers kind reference (inr (inl is)) = inr (inl is.1)
  handle_refers kind reference (inr (inr (inl is))) = of_version (constant_at us.pool reference) is.2 where
    of_version : (c : Option Const) → IsMethodConstantOf major c → IsFieldConstant c ⊎ (IsMethodConstant c ⊎ IsInterfaceConstant c)
    of_version c (inl x) = inr (inl x)
    of_version c (inr x) = inr (inr x.1)
  handle_refers kind reference (inr (inr (inr (inl is)))) = inr (inl is.1)
  handle_refers kind reference (inr (inr (inr (inr is)))) = inr (inr is.1)

  pub constant_linked : (index : ℕ) (c : Option Const) → constant_at us.pool index ≡ c → IsLoadable c ⊎ IsLoadable2 c
      → IsLinkedAt Q s place (constant_op us.pool c)
  constant_linked index (Some (consts.Integer n)) e is = record { linked = tt; call = tt }
  constant_linked index (Some (consts.Long n)) e is = record { linked = tt; call = tt }
  constant_linked index (Some (consts.Float n)) e is = record { linked = tt; call = tt }
  constant_linked index (Some (consts.Double n)) e is = record { linked = tt; call = tt }
  constant_linked index (Some (consts.String t)) e is = text_linked (utf8_at us.pool t) (λ x. push_constant (objects.Str x))
      (around.each index (consts.String t) e).1.0 (λ x. record { linked = around.base.of_strings; call = tt })
  constant_linked index (Some (consts.Class t)) e is = text_linked (utf8_at us.pool t) (λ x. push_constant (objects.Class x))
      (around.each index (consts.Class t) e).1.0 (λ x. record { linked = around.base.of_classes; call = tt })
  constant_linked index (Some (consts.MethodType t)) e is = text_linked (utf8_at us.pool t) (λ x. push_constant (objects.MethodType x))
      (around.each index (consts.MethodType t) e).1.0 (λ x. record { linked = around.types index t e; call = tt })
  constant_linked index (Some (consts.MethodHandle kind reference)) e is =
      let well = (around.each index (consts.MethodHandle kind reference) e).1.0 in
      let r = refers (constant_at us.pool reference) (handle_refers kind reference well) reference refl in
      found Q s place (handle_of us.pool kind reference) (objects.Handle kind r.0.class r.0.name r.0.desc) push_constant (rw r.1 refl)
      (record { linked = around.handles index kind reference e; call = tt })
  constant_linked index c e (inl is) = absurd is
  constant_linked index c e (inr is) = absurd is

  -- ---- fields

  pub field_there : (Form : Declared → Type 0) → ((r : Reference) → AllHold (field_use_checks us Form r) → FieldPasses us Form r)
      → (index : ℕ) → IsFieldConstant (constant_at us.pool index)
      → AllHold (fieldref_use_checks us Form (constant_at us.pool index)) → (r : Reference)
      × (reference_of us.pool (constant_at us.pool index) ≡ Some r) × HasField (headers_in Q) Form r
  field_there Form passes index is uses = by (constant_at us.pool index) refl is uses where
    by : (c : Option Const) → constant_at us.pool index ≡ c → IsFieldConstant c → AllHold (fieldref_use_checks us Form c)
        → (r : Reference) × (reference_of us.pool c ≡ Some r) × HasField (headers_in Q) Form r
    by (Some (consts.Fieldref class member)) e is uses =
        let t = (around.each index (consts.Fieldref class member) e).1.0 in
        let r = reference_text major us.pool around.each class member t.0 t.1 in
        let checked : AllHold (asked_of_reference (field_use_checks us Form) (Some r.reference)) = subst
        (λ o. AllHold (asked_of_reference (field_use_checks us Form) o)) r.is uses in
        let p = passes r.reference checked in (
          r.reference,
          r.is,
          subst (λ hs. HasField hs Form r.reference) (sym around.same)
              (record { field = p.member; finds = p.found; form = p.form }),
        )
    by c e is uses = absurd is

  -- ---- calls

  pub record MethodThere (opcode index : ℕ) : Type 0 where
    pub reference : Reference
    pub is : reference_of us.pool (constant_at us.pool index) ≡ Some reference
    pub passes : MethodPasses us (FitsCall us.headers opcode (constant_at us.pool index)) reference
    pub no_clinit : reference.name ≢ clinit
    pub void : reference.name ≡ init → result_of reference.desc ≡ None

  void_named : (r : Reference) → (r.name ≡ init → IsMethodDescriptor r.desc → ReturnsVoid r.desc) → IsMethodDescriptor r.desc
      → r.name ≡ init → result_of r.desc ≡ None
  void_named r returns is named = void_result laws.parameters r.desc (returns named is)

  pub method_there : (opcode index : ℕ) → IsMethodConstant (constant_at us.pool index) ⊎ IsInterfaceConstant (constant_at us.pool index)
      → AllHold (methodref_use_checks us (FitsCall us.headers opcode (constant_at us.pool index)) (constant_at us.pool index))
      → MethodThere opcode index
  method_there opcode index is uses = by (constant_at us.pool index) refl is uses where
    by : (c : Option Const) → constant_at us.pool index ≡ c → IsMethodConstant c ⊎ IsInterfaceConstant c
        → AllHold (methodref_use_checks us (FitsCall us.headers opcode (constant_at us.pool index)) c) → MethodThere opcode index
    by (Some (consts.Methodref class member)) e is uses =
        let t = (around.each index (consts.Methodref class member) e).1 in
        let r = reference_text major us.pool around.each class member t.0.0 t.0.1 in
        let checked : AllHold (asked_of_reference (method_use_checks us (FitsCall us.headers opcode (constant_at us.pool index)))
        (Some r.reference)) =
        subst (λ o. AllHold (asked_of_reference (method_use_checks us (FitsCall us.headers opcode (constant_at us.pool index))) o)) r.is
        uses in
        record {
          reference = r.reference;
          is = rw e r.is;
          passes = laws.call us opcode (constant_at us.pool index) r.reference checked;
          no_clinit = (rw r.is_name at t.1.0).1;
          void = void_named r.reference (rw r.is_desc at (rw r.is_name at t.1.0).2) (rw r.is_desc at t.1.1.0);
        }
    by (Some (consts.InterfaceMethodref class member)) e is uses =
        let t = (around.each index (consts.InterfaceMethodref class member) e).1 in
        let r = reference_text major us.pool around.each class member t.0.0 t.0.1 in
        let checked : AllHold (asked_of_reference (method_use_checks us (FitsCall us.headers opcode (constant_at us.pool index)))
        (Some r.reference)) =
        subst (λ o. AllHold (asked_of_reference (method_use_checks us (FitsCall us.headers opcode (constant_at us.pool index))) o)) r.is
        uses in
        record {
          reference = r.reference;
          is = rw e r.is;
          passes = laws.call us opcode (constant_at us.pool index) r.reference checked;
          no_clinit = (rw r.is_name at t.1.0).1;
          void = void_named r.reference (rw r.is_desc at (rw r.is_name at t.1.0).2) (rw r.is_desc at t.1.1.0);
        }
    by c e (inl is) uses = absurd is
    by c e (inr is) uses = absurd is

  has_method : (opcode index : ℕ) (Form : Declared → Type 0) (m : MethodThere opcode index) → Form m.passes.member
      → HasMethod (headers_in Q) Form m.reference
  has_method opcode index Form m form = subst (λ hs. HasMethod hs Form m.reference) (sym around.same)
      (record { method = m.passes.member; finds = m.passes.found; form = form; no_clinit = m.no_clinit })

  class_named_there : (opcode index : ℕ) (m : MethodThere opcode index) → IsNamedThere (headers_in Q) m.reference.class
  class_named_there opcode index m = subst (λ hs. IsNamedThere hs m.reference.class) (sym around.same) m.passes.there

  special_linked : (opcode index : ℕ) (m : MethodThere opcode index) → IsLinkedSpecial Q s m.reference
  special_linked opcode index m = record {
    named = class_named_there opcode index m;
    void = m.void;
    own = subst (λ hs. class_named hs s.own.name ≡ Some s.own) (sym around.same) around.own_named;
  }

  pub call_linked : (links : Links) (opcode index count : ℕ) → IsCalled us.pool major opcode index count
      → AllHold (methodref_use_checks us (FitsCall us.headers opcode (constant_at us.pool index)) (constant_at us.pool index))
      → IsLinkedAt Q s place (or_meaningless (option_map (call_op links s opcode) (reference_of us.pool (constant_at us.pool index))))
  call_linked links opcode index count (inl is) uses =
      let m = method_there opcode index (inl is.1) uses in
      found Q s place (reference_of us.pool (constant_at us.pool index)) m.reference (call_op links s opcode) m.is
      (subst (λ o. IsLinkedAt Q s place (call_op links s o m.reference)) (sym is.0) (record {
        linked = (
          has_method opcode index IsInstanceForm m (m.passes.form.of_instance
              (λ e. let no : INVOKEVIRTUAL ≡ INVOKESTATIC = sym is.0 ∙ e in absurd (omega (arith, no)))),
          λ e. let no : INVOKEVIRTUAL ≡ INVOKESPECIAL = sym is.0 ∙ m.passes.form.initialiser e in absurd (omega (arith, no)),
        );
        call = class_named_there opcode index m;
      }))
  call_linked links opcode index count (inr (inl is)) uses =
      let m = method_there opcode index (inr is.1) uses in
      found Q s place (reference_of us.pool (constant_at us.pool index)) m.reference (call_op links s opcode) m.is
      (subst (λ o. IsLinkedAt Q s place (call_op links s o m.reference)) (sym is.0) (record {
        linked = (
          has_method opcode index IsInstanceForm m (m.passes.form.of_instance
              (λ e. let no : INVOKEINTERFACE ≡ INVOKESTATIC = sym is.0 ∙ e in absurd (omega (arith, no)))),
          λ e. let no : INVOKEINTERFACE ≡ INVOKESPECIAL = sym is.0 ∙ m.passes.form.initialiser e in absurd (omega (arith, no)),
        );
        call = tt;
      }))
  call_linked links opcode index count (inr (inr is)) uses =
      let m = method_there opcode index (names is.1) uses in
      found Q s place (reference_of us.pool (constant_at us.pool index)) m.reference (call_op links s opcode) m.is (by is.0 m) where
        names : (IsMethodConstant (constant_at us.pool index)) ⊎ ((major ≡ 52) × IsInterfaceConstant (constant_at us.pool index))
            → IsMethodConstant (constant_at us.pool index) ⊎ IsInterfaceConstant (constant_at us.pool index)
        names (inl x) = inl x
        names (inr x) = inr x.1

        by : (opcode ≡ INVOKESPECIAL) ⊎ (opcode ≡ INVOKESTATIC) → (m : MethodThere opcode index)
            → IsLinkedAt Q s place (call_op links s opcode m.reference)
        by (inl is) m =
            subst (λ o. IsLinkedAt Q s place (call_op links s o m.reference)) (sym is) (record {
              linked = has_method opcode index IsInstanceForm m (m.passes.form.of_instance
                  (λ e. let no : INVOKESPECIAL ≡ INVOKESTATIC = sym is ∙ e in absurd (omega (arith, no))));
              call = special_linked opcode index m;
            })
        by (inr is) m =
            subst (λ o. IsLinkedAt Q s place (call_op links s o m.reference)) (sym is) (record {
              linked = (
                has_method opcode index IsStaticForm m (m.passes.form.of_static is),
                λ e. let no : INVOKESTATIC ≡ INVOKESPECIAL = sym is ∙ m.passes.form.initialiser e in absurd (omega (arith, no)),
              );
              call = tt;
            })

  -- ---- classes

  pub class_linked : (index : ℕ) (op : Name → Op) → IsClassAt us.pool index
      → ((name : Name) → class_at us.pool index ≡ Some name → IsLinkedAt Q s place (op name))
      → IsLinkedAt Q s place (or_meaningless (option_map op (class_at us.pool index)))
  class_linked index op is linked = let c = class_text major us.pool around.each index is in found Q s place (class_at us.pool index) c.0
      op c.1 (linked c.0 c.1)

  -- the class that is named is there
  pub class_there : (index : ℕ) (name : Name) → class_at us.pool index ≡ Some name → AllHold (class_use_checks us index)
      → IsNamedThere us.headers name
  class_there index name e uses = (laws.named_class us name (rw e at uses)).there
