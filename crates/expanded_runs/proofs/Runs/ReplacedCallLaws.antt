-- What a call comes to in the folder's own program, where flat code has the callee's code in its place.
use Rattle.std.specs.Prelude.{◌≡◌, ◌≢◌, ◌⊎◌, ◌+◌, nat_le, refl, ℕ, Bool, true, false, List, ◌∷◌, bytes_eq, is_some, length, slice_get, Option, Some, None, option_map}
use Rattle.std.proofs.Common.{inl, inr, ap, sym, subst, ◌∙◌}
use Rattle.std.proofs.lemmas.Bool.{false≢true}
use Rattle.std.proofs.lemmas.Option.{none-some, same_Some}
use Rattle.std.proofs.lemmas.Slice.Eq.{bytes_eq-Decides}
use Rattle.class_model.specs.Checks.{AllHold}
use Rattle.class_model.specs.Descriptors.{parameters_of}
use Rattle.class_model.specs.Header.{header_of}
use Rattle.class_model.specs.Members.{ABSTRACT, STATIC, has}
use Rattle.class_model.specs.Names.{clinit, init}
use Rattle.class_model.specs.Pool.{constant_at}
use Rattle.class_model.specs.PoolChecks.{utf8_at}
use Rattle.class_model.specs.declared.class_file.ClassFile.{ClassFile}
use Rattle.class_model.specs.declared.class_file.MethodAt.{MethodAt}
use Rattle.class_model.specs.declared.descriptor.Kind.TheVariants as kinds
use Rattle.class_model.specs.declared.frame.Frame.{Frame}
use Rattle.class_model.specs.declared.frame.VType.TheVariants as types
use Rattle.class_model.specs.declared.header.Member.{Member}
use Rattle.class_model.specs.declared.instr.Instr.{Instr}
use Rattle.class_model.specs.declared.instr.Instr.TheVariants.{Invoke}
use Rattle.class_model.specs.declared.instr.Placed.{Placed}
use Rattle.class_model.specs.declared.opcodes.TheConstants.{INVOKESPECIAL}
use Rattle.class_tree.specs.Headers.{Name, class_named, headers_of}
use Rattle.class_tree.specs.Names.{object}
use Rattle.expanded_code.specs.Callees.{Calls, IsClass, IsOverriddenByNone, MayStandIn, Runs, own_name, runs_special, runs_static, runs_virtual}
use Rattle.expanded_code.specs.Expanded.{Argument, arguments, arguments_from, tests_receiver}
use Rattle.expanded_code.specs.Expansions.{Coded}
use Rattle.expanded_code.specs.Laws.QuietInert.{quiet_is_inert}
use Rattle.expanded_code.specs.Sites.{HasFrames, IsReplaced}
use Rattle.expanded_runs.proofs.Runs.CallChoices.{special_chosen, special_start_is, virtual_chosen}
use Rattle.expanded_runs.proofs.Runs.CallFrames.{GoesOn, does, goes_on, row_of_instr}
use Rattle.expanded_runs.proofs.Runs.CallLaws.{CallLaws, callee_parts, headers, init_chosen, init_class, kinds_fit, links_to, moved, no_handle, plain_call, same_desc, start_below, text_is, text_named}
use Rattle.expanded_runs.proofs.Runs.CallTargets.{AreRead, HasClass, IsScopeOf, IsTarget, RunsCode, class_of_scope, is_target, op_of_instr, placed_is, runs_code, scope_has, scope_is}
use Rattle.expanded_runs.proofs.Runs.CallWork.{RunsOn, found_init, found_named, init_runs, special_outcome, special_runs, static_comes, tested_comes, virtual_outcome, virtual_runs}
use Rattle.expanded_runs.proofs.Runs.FolderReceivers.{IsFolderClass, IsObjectUnder, receiver_under, subtype_under}
use Rattle.expanded_runs.proofs.Runs.ReplacedCalls.{ComesTo, FitArguments, IsPlainMethod, ReplacedCall, comes_to_call}
use Rattle.expanded_runs.proofs.Runs.Setup.{IsSetup, Setup, before}
use Rattle.expanded_runs.proofs.Runs.TypedCalls.{HoldsCall, holds_call, init_object, typed_receiver}
use Rattle.machine_values.specs.Frames.{MethodState}
use Rattle.machine_values.specs.Heaps.{object_at}
use Rattle.machine_values.specs.Values.{has_kind, have_kinds}
use Rattle.machine_values.specs.declared.frame.RunFrame.{RunFrame}
use Rattle.machine_values.specs.declared.frame.RunFrame.TheVariants.{Method}
use Rattle.machine_values.specs.declared.object.Object.{Object}
use Rattle.machine_values.specs.declared.object.Shape.{Shape}
use Rattle.machine_values.specs.declared.value.Value.{Value}
use Rattle.machine_values.specs.declared.value.Value.TheVariants as values
use Rattle.member_link.specs.Assignability.{IsAssignable}
use Rattle.member_link.specs.Bodies.{item_instr, item_row}
use Rattle.member_link.specs.BodyTyping.{RowHolds}
use Rattle.member_link.specs.Choices.{IsRunnable}
use Rattle.member_link.specs.CodedMethods.{placed_at}
use Rattle.member_link.specs.DeclaredMembers.{Declared, IsMethod}
use Rattle.member_link.specs.FoundAbove.{IsMethodAbove}
use Rattle.member_link.specs.Machine.CallSteps.{is_object_init, is_polymorphic, special_on, virtual_on}
use Rattle.member_link.specs.Machine.Codes.{call_op, code_points, instr_op, method_code, number_at, or_meaningless, special_start}
use Rattle.member_link.specs.Machine.Completions.{calls, ends, raises}
use Rattle.member_link.specs.Machine.Links.{reference_to}
use Rattle.member_link.specs.Machine.Ops.{Op, call_special, call_static, call_virtual}
use Rattle.member_link.specs.Machine.Performing.{SYNCHRONIZED}
use Rattle.member_link.specs.Machine.Programs.{Point, chosen, folder_number, headers_in, name_of_class, point_at}
use Rattle.member_link.specs.Machine.Shapes.{class_of_shape, is_external}
use Rattle.member_link.specs.Machine.Throwables.{null_pointer}
use Rattle.member_link.specs.Machine.Work.{arity, work}
use Rattle.member_link.specs.Machine.Worlds.{World, stuck}
use Rattle.member_link.specs.Methods.{FindsMethod, IsPolymorphic}
use Rattle.member_link.specs.References.{Reference}
use Rattle.member_link.specs.Rows.MemberRows.{MayInitialise, argument_needs, call_row, init_row, receiver, special_row}
use Rattle.member_link.specs.Rows.Operands.{AllFit, assignable_to, topmost, uninitialised}
use Rattle.member_link.specs.Rows.Readings.{Reading, reads_itself, row_by}
use Rattle.member_link.specs.Rows.Row.{access_aside, either}
use Rattle.member_link.specs.Scope.{Scope, instructions, is_init, own_descriptor, row_scope}
use Rattle.member_link.specs.Selection.{Selects, chosen_method}
use Rattle.member_link.specs.Signatures.{reference_of}
use Rattle.member_link.specs.SpecialStart.{StartsSpecial}
use Rattle.member_link.specs.declared.selection.CallForm.TheVariants.{Special, Virtual}
use Rattle.same_runs.specs.Laws.CaughtUp.{operands_of}
use Rattle.same_runs.specs.Laws.Operations.{WorksOnOperands}
use Rattle.type_rules.specs.Rule.{row_checks}
use Rattle.typed_runs.specs.Conforming.{HoldsShape}
use Rattle.typed_runs.specs.TypedFrames.{Does}
use Rattle.typed_runs.specs.Laws.PlainReadings.{IsPlainlyRead, plainly_read}
use Rattle.typed_runs.specs.TypedPoints.{IsLinkedOp}
use Rattle.typed_runs.specs.TypedWorlds.{TypedWorld}

module _ (u : Setup) (is : IsSetup u) (laws : CallLaws) (read : AreRead u.classes) where
  module _ (w : World) (f : MethodState) (rest : List RunFrame) (typed : TypedWorld (before u) u.typings w) (frames : w.frames ≡ Method f ∷ rest)
      (point : Point) (caller g : Coded) (placed : Placed) (at : f.at ≡ caller.at)
      (has_frames : HasFrames u.classes u.typed caller.at caller.scope caller.frames) (has_also : HasFrames u.classes u.typed g.at g.scope g.frames)
      (stands : slice_get (instructions caller.scope) f.place ≡ Some placed) (point_is : point_at (before u) f.at f.place ≡ Some point)
      (its_calls : Calls u.classes caller.scope placed.at g.at) (host_class : ClassFile) (some_frames : List Frame)
      (may : MayStandIn u.classes host_class g.scope some_frames) where
    abbrev m : Declared
    m = its_calls.method

    d : Does (before u) u.typings w.memory.heap f
    d = does (before u) u.typings laws.steps w f rest typed frames

    runs_caller : RunsCode u.classes u.links caller.at caller.scope
    runs_caller = runs_code u.classes u.links read caller.at caller.scope has_frames.is_scope

    runs_callee : RunsCode u.classes u.links g.at g.scope
    runs_callee = runs_code u.classes u.links read g.at g.scope has_also.is_scope

    target : IsTarget (before u) g.at its_calls.method
    target = is_target u.classes u.links read is.hierarchy g.at g.scope has_also.is_scope its_calls.method its_calls.stands

    scope_of : IsScopeOf g.scope its_calls.method
    scope_of = scope_is u.classes u.links read is.hierarchy g.at g.scope has_also.is_scope its_calls.method its_calls.stands

    caller_class : HasClass u.classes u.links caller.at caller.scope
    caller_class = class_of_scope u.classes u.links is.hierarchy caller.at caller.scope has_frames.is_scope

    flags_are : its_calls.method.member.flags ≡ g.scope.method.flags
    flags_are = ap (λ (member : Member). member.flags) scope_of.member

    -- ---- the callee

    plain_callee : its_calls.method.member.name ≢ clinit → IsPlainMethod u g
    plain_callee other =
        let same : runs_callee.method.member ≡ its_calls.method.member = runs_callee.member ∙ sym scope_of.member in
        let name : bytes_eq runs_callee.method.member.name clinit ≡ false = differ (bytes_eq runs_callee.method.member.name clinit) refl same in
        let unlocked : has runs_callee.method.member.flags SYNCHRONIZED ≡ false =
        ap (λ (member : Member). has member.flags SYNCHRONIZED) runs_callee.member ∙ may.no_monitor in
        record {
          method = runs_callee.method;
          is = runs_callee.is;
          no_initialiser = name;
          unlocked = rw unlocked refl;
          code = runs_callee.code;
          no_handlers = may.no_handlers;
        } where
          differ : (b : Bool) → bytes_eq runs_callee.method.member.name clinit ≡ b → runs_callee.method.member ≡ its_calls.method.member
              → bytes_eq runs_callee.method.member.name clinit ≡ false
          differ true e same =
              absurd (other (ap (λ (member : Member). member.name) (sym same) ∙ (bytes_eq-Decides runs_callee.method.member.name clinit).0 e))
          differ false e same = e

    -- ---- the operation

    instr_is : placed.instr ≡ Invoke its_calls.opcode its_calls.is_call.index its_calls.is_call.count
    instr_is =
        let there = placed_is laws.consecutive caller.scope f.place placed stands in
        let own : option_map (λ (p : Placed). p.instr) (placed_at (instructions caller.scope) placed.at) ≡ Some placed.instr =
        ap (option_map (λ (p : Placed). p.instr)) there in
        same_Some placed.instr (Invoke its_calls.opcode its_calls.is_call.index its_calls.is_call.count) (sym own ∙ its_calls.is_call.is)

    op_is : point.op ≡ call_op u.links (row_scope caller.scope) its_calls.opcode its_calls.reference
    op_is =
        let here = subst (λ (place : MethodAt). point_at (before u) place f.place ≡ Some point) at point_is in
        op_of_instr u.classes u.links caller.at caller.scope runs_caller f.place placed point stands here
        ∙ ap (instr_op u.links (number_at (code_points caller.scope)) (row_scope caller.scope)) instr_is
        ∙ ap (λ o. or_meaningless (option_map (call_op u.links (row_scope caller.scope) its_calls.opcode) o)) its_calls.is_call.names

    same_point : (op : Op) → point.op ≡ op → d.stands.point.op ≡ op
    same_point op e = ap (λ (p : Point). p.op) (same_Some d.stands.point point (sym d.stands.is_point ∙ point_is)) ∙ e

    linked : (op : Op) → point.op ≡ op → IsLinkedOp (before u) (u.typings f.at).scope d.stands.fits.place op
    linked op e = subst (IsLinkedOp (before u) (u.typings f.at).scope d.stands.fits.place) (same_point op e) d.stands.fits.linked

    -- its row is read as it is
    holds : (op : Op) → point.op ≡ op → IsPlainlyRead op → HoldsCall d.stands.fits.scope d.stands.fits.frame op
    holds op e plain =
        let p = d.stands.fits in
        let itself : p.reading ≡ reads_itself =
        plainly_read p.reading p.frame d.stands.point.op p.read (subst IsPlainlyRead (sym (same_point op e)) plain) in
        let row =
        subst (λ (reading : Reading). RowHolds p.scope p.frame (row_by reading p.frame (item_row p.scope p.frame p.place p.item))) itself p.row in
        let own = holds_call p.scope p.frame u.links p.numbered p.place p.item row in
        subst (HoldsCall d.stands.fits.scope d.stands.fits.frame) (sym d.stands.fits.is_op ∙ same_point op e) own

    -- an instance initialiser of another class than java/lang/Object
    plain_init : (r : Reference) (from : Name) → r.class ≢ object → IsPlainlyRead (call_special r from)
    plain_init r from other = record {
      no_new = λ name e. cc;
      no_init = λ named start e.
          let same : r ≡ named = cc in
          subst (λ (x : Reference). is_object_init x ≡ false) same (by (bytes_eq r.class object) refl);
    } where
      by : (b : Bool) → bytes_eq r.class object ≡ b → is_object_init r ≡ false
      by true e = absurd (other ((bytes_eq-Decides r.class object).0 e))
      by false e = rw e refl

    going : (op : Op) → point.op ≡ op → WorksOnOperands op → GoesOn (before u) u.typings laws.steps w f rest typed frames op
    going op e works = goes_on (before u) u.typings laws.steps w f rest typed frames point op point_is e works

    finish : (op : Op) → point.op ≡ op → WorksOnOperands op → nat_le (arity op) (length f.stack) ≡ true
        → ComesTo (before u) w.memory op (operands_of (arity op) f) g
        → ((unit : ℕ) → FitArguments (arguments g.scope unit) (operands_of (arity op) f))
        → its_calls.method.member.name ≢ clinit
        → ReplacedCall u w.memory f point g
    finish op e works enough comes fit other = record {
      works = subst WorksOnOperands (sym e) works;
      enough = subst (λ (o : Op). nat_le (arity o) (length f.stack) ≡ true) (sym e) enough;
      comes = subst (λ (o : Op). ComesTo (before u) w.memory o (operands_of (arity o) f) g) (sym e) comes;
      fit = subst (λ (o : Op). (unit : ℕ) → FitArguments (arguments g.scope unit) (operands_of (arity o) f)) (sym e) fit;
      callee = plain_callee other;
    }

    -- ---- its arguments

    fit_static : (r : Reference) → has its_calls.method.member.flags STATIC ≡ true → its_calls.method.member.desc ≡ r.desc
        → (vs : List Value) → have_kinds (parameters_of r.desc) vs ≡ true → (unit : ℕ) → FitArguments (arguments g.scope unit) vs
    fit_static r static desc vs all unit =
        let flag : has g.scope.method.flags STATIC ≡ true = ap (λ flags. has flags STATIC) (sym flags_are) ∙ static in
        let own : own_descriptor g.scope ≡ r.desc = ap (λ (member : Member). member.desc) (sym scope_of.member) ∙ desc in
        let are : arguments g.scope unit ≡ arguments_from unit (parameters_of r.desc) = rw (flag, own) refl in
        subst (λ (all : List Argument). FitArguments all vs) (sym are) (kinds_fit unit (parameters_of r.desc) vs all)

    fit_instance : (r : Reference) → has its_calls.method.member.flags STATIC ≡ false → its_calls.method.member.desc ≡ r.desc
        → (v : Value) (others : List Value) → has_kind kinds.Ref v ≡ true → have_kinds (parameters_of r.desc) others ≡ true
        → (unit : ℕ) → FitArguments (arguments g.scope unit) (v ∷ others)
    fit_instance r instance desc v others receives all unit =
        let flag : has g.scope.method.flags STATIC ≡ false = ap (λ flags. has flags STATIC) (sym flags_are) ∙ instance in
        let own : own_descriptor g.scope ≡ r.desc = ap (λ (member : Member). member.desc) (sym scope_of.member) ∙ desc in
        let first : Argument = record { kind = kinds.Ref; unit = unit } in
        let are : arguments g.scope unit ≡ first ∷ arguments_from (unit + 1) (parameters_of r.desc) = rw (flag, own) refl in
        subst (λ (all : List Argument). FitArguments all (v ∷ others)) (sym are) (receives, kinds_fit (unit + 1) (parameters_of r.desc) others all)

    -- ---- a static call

    static_call : (r : Reference) → point.op ≡ call_static r → FindsMethod (headers_of u.classes) r.class r.name r.desc (Some its_calls.method)
        → ReplacedCall u w.memory f point g
    static_call r op finds =
        let l = linked (call_static r) op in
        let here = moved u is (λ hs. FindsMethod hs r.class r.name r.desc (Some its_calls.method)) finds in
        let same : l.0.method ≡ its_calls.method =
        same_Some l.0.method its_calls.method
        (laws.finds_one (headers_in (before u)) r.class r.name r.desc (Some l.0.method) (Some its_calls.method) l.0.finds here) in
        let static : has its_calls.method.member.flags STATIC ≡ true = subst (λ (x : Declared). has x.member.flags STATIC ≡ true) same l.0.form in
        let above = laws.finds_above (headers_in (before u)) r.class r.name r.desc its_calls.method is.program.hierarchy here in
        let other = no_handle u is r its_calls.method.class g.at.class target.number above.above in
        let plain = plain_call u is r its_calls.method.class (ap is_some above.declares.found) above.above other in
        let flag : has g.scope.method.flags STATIC ≡ true = ap (λ flags. has flags STATIC) (sym flags_are) ∙ static in
        let class = class_of_scope u.classes u.links is.hierarchy g.at g.scope has_also.is_scope in
        let inert =
        quiet_is_inert u.classes u.links is.hierarchy is.linked (own_name g.scope) (header_of g.scope.class) g.at.class class.found class.name
        (may.quiet flag) in
        let goes = going (call_static r) op tt in
        let untested : tests_receiver g.scope ≡ false = rw flag refl in
        let comes =
        static_comes (before u) w.memory g r its_calls.method
        (operands_of (length (parameters_of r.desc)) f) target runs_callee.class runs_callee.is_class inert
        (λ tested. false≢true (sym untested ∙ tested)) plain (links_to u is laws r its_calls.method l.1 here) goes.works in
        finish (call_static r) op tt goes.enough comes.1
        (fit_static r static (same_desc u is r its_calls.method above other) (operands_of (length (parameters_of r.desc)) f) comes.0)
        (λ e. l.0.no_clinit (sym above.same_name ∙ e))

    -- ---- a call on an object

    objects : (reference : ℕ) (object : Object) → object_at w.memory.heap reference ≡ Some object
        → HoldsShape (before u) w.memory.heap object.shape object.values
    objects = typed.memory.objects

    method_headers : (u.typings caller.at).scope.headers ≡ headers_in (before u)
    method_headers = (is.program.methods caller.at runs_caller.method (method_code u.links caller.scope) runs_caller.is runs_caller.code).headers

    scope_headers : d.stands.fits.scope.headers ≡ headers_in (before u)
    scope_headers =
        d.stands.fits.reads.headers ∙ subst (λ (place : MethodAt). (u.typings place).scope.headers ≡ headers_in (before u)) (sym at) method_headers

    receives : (v : Value) (P Q : Type 0) → (v ≡ values.Null × P) ⊎ ((reference : ℕ) × (v ≡ values.Ref reference) × Q) → has_kind kinds.Ref v ≡ true
    receives v P Q (inl e) = ap (has_kind kinds.Ref) e.0
    receives v P Q (inr e) = ap (has_kind kinds.Ref) e.1

    tested_by : has its_calls.method.member.flags STATIC ≡ false → its_calls.method.member.name ≢ init → tests_receiver g.scope ≡ true
    tested_by instance other =
        let flag : has g.scope.method.flags STATIC ≡ false = ap (λ flags. has flags STATIC) (sym flags_are) ∙ instance in
        let name : is_init g.scope ≡ false = text_is init (utf8_at g.scope.class.pool g.scope.method.name)
        (λ e. other (ap (λ (member : Member). member.name) scope_of.member ∙ e)) in
        rw (flag, name) refl

    concrete : has its_calls.method.member.flags ABSTRACT ≡ false
    concrete = ap (λ flags. has flags ABSTRACT) flags_are ∙ runs_callee.concrete.no_abstract

    virtual_call : (r : Reference) → point.op ≡ call_virtual r → FindsMethod (headers_of u.classes) r.class r.name r.desc (Some its_calls.method)
        → IsClass (headers_of u.classes) its_calls.method.class → IsOverriddenByNone (headers_of u.classes) its_calls.method
        → ReplacedCall u w.memory f point g
    virtual_call r op finds own none =
        let l = linked (call_virtual r) op in
        let here = moved u is (λ hs. FindsMethod hs r.class r.name r.desc (Some its_calls.method)) finds in
        let same : l.0.method ≡ its_calls.method =
        same_Some l.0.method its_calls.method
        (laws.finds_one (headers_in (before u)) r.class r.name r.desc (Some l.0.method) (Some its_calls.method) l.0.finds here) in
        let instance : has its_calls.method.member.flags STATIC ≡ false = subst (λ (x : Declared). has x.member.flags STATIC ≡ false) same l.0.form in
        let above = laws.finds_above (headers_in (before u)) r.class r.name r.desc its_calls.method is.program.hierarchy here in
        let other = no_handle u is r its_calls.method.class g.at.class target.number above.above in
        let plain = plain_call u is r its_calls.method.class (ap is_some above.declares.found) above.above other in
        let class = moved u is (λ hs. IsClass hs its_calls.method.class) own in
        let folder : IsFolderClass (before u) its_calls.method.class = record {
          number = g.at.class;
          numbered = target.number;
          header = class.header;
          found = class.found;
          no_interface = class.no_interface;
        } in
        let no_init : its_calls.method.member.name ≢ init = λ e. l.1 (sym above.same_name ∙ e) in
        let row = holds (call_virtual r) op (record { no_new = λ name e. cc; no_init = λ other start e. cc }) in
        let t = typed_receiver d.stands.fits.scope (assignable_to (types.Object r.class)) d.stands.fits.frame r f row.operands d.stack in
        let vs : List Value = t.value ∷ t.others in
        let assignable = subst (λ hs. IsAssignable hs t.type (types.Object r.class)) scope_headers t.fits in
        let under = subtype_under (before u) u.typings is.program folder above.above (inl refl) in
        let got = receiver_under (before u) u.typings is.program folder w.memory.heap objects t.conforms assignable under in
        let goes = going (call_virtual r) op tt in
        let tested = tested_by instance no_init in
        let works = subst (λ (all : List Value). work (before u) w.memory (call_virtual r) all ≢ ends stuck) t.are goes.works in
        let on = of_got r t.value t.others plain folder (moved u is (λ hs. IsOverriddenByNone hs its_calls.method) none) no_init above.declares got in
        let outcome =
        virtual_outcome (before u) w.memory g r its_calls.method t.value t.others target plain
        (links_to u is laws r its_calls.method l.1 here) on works in
        finish (call_virtual r) op tt goes.enough
        (subst (λ (all : List Value). ComesTo (before u) w.memory (call_virtual r) all g) (sym t.are)
        (tested_comes (before u) w.memory g r its_calls.method t.value t.others target plain (call_virtual r) tested outcome))
        (subst (λ (all : List Value). (unit : ℕ) → FitArguments (arguments g.scope unit) all) (sym t.are)
        (fit_instance r instance (same_desc u is r its_calls.method above other) t.value t.others (receives t.value _ _ outcome.1) outcome.0))
        (λ e. l.0.no_clinit (sym above.same_name ∙ e)) where
          of_got : (r : Reference) (v : Value) (others : List Value) → is_polymorphic (before u) r ≡ false
              → (folder : IsFolderClass (before u) its_calls.method.class)
              → IsOverriddenByNone (headers_in (before u)) its_calls.method → its_calls.method.member.name ≢ init
              → IsMethod (headers_in (before u)) its_calls.method
              → (v ≡ values.Null) ⊎ IsObjectUnder (before u) u.typings is.program folder w.memory.heap v
              → (v ≡ values.Null) ⊎ RunsOn (before u) w.memory v (virtual_on (before u) r (reference_to its_calls.method) (v ∷ others))
              (calls g.at (v ∷ others))
          of_got r v others plain folder none no_init declares (inl e) = inl e
          of_got r v others plain folder none no_init declares (inr o) =
              let inside : is_external o.object.shape ≡ false = ap is_external o.shape.is in
              let selects = virtual_chosen (before u) u.typings is.program its_calls.method declares folder concrete none no_init
              (name_of_class (before u) o.shape.class) o.shape.under in
              let class : class_of_shape (before u) o.object.shape ≡ name_of_class (before u) o.shape.class =
              ap (class_of_shape (before u)) o.shape.is in
              let chooses : u.links.select (class_of_shape (before u) o.object.shape) (reference_to its_calls.method) Virtual ≡ chosen
              (reference_to its_calls.method) =
              ap (λ name. u.links.select name (reference_to its_calls.method) Virtual) class ∙ selects in
              inr (record {
                reference = o.reference;
                is = o.is;
                object = o.object;
                there = o.there;
                runs = virtual_runs (before u) w.memory g r its_calls.method v others target plain o.object.shape inside chooses;
              })

    -- ---- a special call

    -- what is known of one: the method that is found, and where selection starts
    record IsSpecialCall (r : Reference) (found : Declared) (start : Name) : Type 0 where
      opcode : its_calls.opcode ≡ INVOKESPECIAL
      reference : its_calls.reference ≡ r
      op : point.op ≡ call_special r (special_start u.links (row_scope caller.scope) r.class)
      finds : FindsMethod (headers_in (before u)) r.class r.name r.desc (Some found)
      of_instance : has found.member.flags STATIC ≡ false
      starts : StartsSpecial (headers_in (before u)) (own_name caller.scope) r.class start
      selects : Selects (headers_in (before u)) start found Special (chosen_method its_calls.method)
      no_handle : ¬ IsPolymorphic (headers_in (before u)) r.class r.name

    module _ (r : Reference) (found : Declared) (start : Name) (special : IsSpecialCall r found start) where
      abbrev from : Name
      from = special_start u.links (row_scope caller.scope) r.class

      found_above : IsMethodAbove (headers_in (before u)) r.class r.name r.desc found
      found_above = laws.finds_above (headers_in (before u)) r.class r.name r.desc found is.program.hierarchy special.finds

      from_is : special_start u.links (row_scope caller.scope) r.class ≡ start
      from_is =
          let own = moved u is (λ hs. class_named hs (own_name caller.scope) ≡ Some (header_of caller.scope.class)) caller_class.found in
          special_start_is (before u) u.typings is.program (row_scope caller.scope)
          (scope_headers_are ∙ sym (headers u is)) own r.class start special.starts where
            scope_headers_are : caller.scope.headers ≡ headers_of u.classes
            scope_headers_are = ap (λ (s : Scope). s.headers) (scope_has u.classes caller.at caller.scope has_frames.is_scope).same

      runnable : IsRunnable (headers_in (before u)) start found its_calls.method
      runnable =
          laws.runnable (headers_in (before u)) start found its_calls.method Special is.program.hierarchy found_above.declares special.of_instance
          (start_below u is special.starts found_above.above) special.selects

      plain_special : is_polymorphic (before u) r ≡ false
      plain_special = plain_call u is r found.class (ap is_some found_above.declares.found) found_above.above special.no_handle

      chosen_desc : its_calls.method.member.desc ≡ r.desc
      chosen_desc = runnable.same_desc ∙ same_desc u is r found found_above special.no_handle

      chosen_name : its_calls.method.member.name ≡ r.name
      chosen_name = runnable.same_name ∙ found_above.same_name

      no_clinit : its_calls.method.member.name ≢ clinit
      no_clinit e = (linked (call_special r from) special.op).no_clinit (sym chosen_name ∙ e)

      goes : GoesOn (before u) u.typings laws.steps w f rest typed frames (call_special r from)
      goes = going (call_special r from) special.op tt

      -- ---- of a method that is no initialiser

      -- its row, in the method's own class
      record HasSpecialRow : Type 0 where
        operands : AllFit (row_scope caller.scope) (assignable_to (types.Object r.class) ∷ argument_needs r.desc)
            (topmost (length (assignable_to (types.Object r.class) ∷ argument_needs r.desc)) d.stands.fits.frame.stack)
        own : IsAssignable caller.scope.headers (receiver d.stands.fits.frame r.desc) (types.Object (own_name caller.scope))

      special_row_holds : r.name ≢ init → HasSpecialRow
      special_row_holds other =
          let row =
          row_of_instr laws.methods laws.instrs u.classes u.typed is.types caller.at caller.scope caller.frames has_frames f.place placed stands in
          let S = row_scope caller.scope in
          let instr : placed.instr ≡ Invoke INVOKESPECIAL its_calls.is_call.index its_calls.is_call.count =
          instr_is ∙ ap (λ opcode. Invoke opcode its_calls.is_call.index its_calls.is_call.count) special.opcode in
          let invoked = subst (λ (i : Instr). AllHold (row_checks S row.frame (item_row S row.frame placed.at (item_instr i)))) instr row.checks in
          let names : reference_of caller.scope.class.pool (constant_at caller.scope.class.pool its_calls.is_call.index) ≡ Some r =
          its_calls.is_call.names ∙ ap Some special.reference in
          let named = subst (λ (o : Option Reference). AllHold (row_checks S row.frame (call_row S row.frame INVOKESPECIAL o))) names invoked in
          let by_name =
          subst (λ (b : Bool). AllHold (row_checks S row.frame (either b (init_row S row.frame r) (special_row S row.frame r))))
          (not_init r.name other) named in
          let same : row.frame ≡ d.stands.fits.frame = same_Some row.frame d.stands.fits.frame (sym row.is_frame ∙ frame_here) in
          let here = subst (λ (frame : Frame). AllHold (row_checks S frame (special_row S frame r))) same by_name in
          record { operands = here.0; own = here.1.1.1.0.0.1 } where
            frame_here : slice_get caller.frames f.place ≡ Some d.stands.fits.frame
            frame_here =
                let own = is.typings caller.at caller.frames has_frames.are_frames in
                ap (λ (all : List Frame). slice_get all f.place)
                (sym (subst (λ (place : MethodAt). (u.typings place).frames ≡ caller.frames) (sym at) own))
                ∙ d.stands.fits.is_frame

            not_init : (name : List ℕ) → name ≢ init → bytes_eq name init ≡ false
            not_init name apart = by (bytes_eq name init) refl where
              by : (b : Bool) → bytes_eq name init ≡ b → bytes_eq name init ≡ false
              by true e = absurd (apart ((bytes_eq-Decides name init).0 e))
              by false e = e

      special_call : r.name ≢ init → IsClass (headers_of u.classes) (own_name caller.scope) → ReplacedCall u w.memory f point g
      special_call other own =
          let class = moved u is (λ hs. IsClass hs (own_name caller.scope)) own in
          let folder : IsFolderClass (before u) (own_name caller.scope) = record {
            number = caller.at.class;
            numbered = caller_class.number;
            header = class.header;
            found = class.found;
            no_interface = class.no_interface;
          } in
          let row = special_row_holds other in
          let t = typed_receiver (row_scope caller.scope) (assignable_to (types.Object r.class)) d.stands.fits.frame r f row.operands d.stack in
          let scope_headers_are : caller.scope.headers ≡ headers_in (before u) =
          ap (λ (s : Scope). s.headers) (scope_has u.classes caller.at caller.scope has_frames.is_scope).same ∙ sym (headers u is) in
          let assignable = subst (λ type. IsAssignable (headers_in (before u)) type (types.Object (own_name caller.scope))) t.lowest
          (subst (λ hs. IsAssignable hs (receiver d.stands.fits.frame r.desc) (types.Object (own_name caller.scope))) scope_headers_are row.own) in
          let got = receiver_under (before u) u.typings is.program folder w.memory.heap objects t.conforms assignable (inl refl) in
          let no_init : its_calls.method.member.name ≢ init = λ e. other (sym chosen_name ∙ e) in
          let found_other : found.member.name ≢ init = λ e. other (sym found_above.same_name ∙ e) in
          let selects : u.links.select from (reference_to found) Special ≡ chosen (reference_to its_calls.method) =
          ap (λ name. u.links.select name (reference_to found) Special) from_is
          ∙ special_chosen
          (before u) u.typings is.program laws.chooses_one start found its_calls.method found_above.declares found_other special.selects in
          let on = of_got t.value t.others folder (λ shape inside.
          special_runs
          (before u) w.memory g r its_calls.method t.value t.others target plain_special from found found_other selects shape inside) got in
          let works = subst (λ (all : List Value). work (before u) w.memory (call_special r from) all ≢ ends stuck) t.are goes.works in
          let link =
          found_named (before u) w.memory g r its_calls.method t.value t.others target plain_special found other
          (links_to u is laws r found other special.finds) in
          let outcome = special_outcome (before u) w.memory g r its_calls.method t.value t.others target plain_special from found link on works in
          let tested = tested_by runnable.of_instance no_init in
          finish (call_special r from) special.op tt goes.enough
          (subst (λ (all : List Value). ComesTo (before u) w.memory (call_special r from) all g) (sym t.are)
          (tested_comes (before u) w.memory g r its_calls.method t.value t.others target plain_special (call_special r from) tested outcome))
          (subst (λ (all : List Value). (unit : ℕ) → FitArguments (arguments g.scope unit) all) (sym t.are)
          (fit_instance r runnable.of_instance chosen_desc t.value t.others (receives t.value _ _ outcome.1) outcome.0))
          no_clinit where
            of_got : (v : Value) (others : List Value) (folder : IsFolderClass (before u) (own_name caller.scope))
                →
                ((shape : Shape) → is_external shape ≡ false → special_on (before u) w.memory r from (reference_to found) (v ∷ others) shape ≡ calls g.at (v ∷ others))
                → (v ≡ values.Null) ⊎ IsObjectUnder (before u) u.typings is.program folder w.memory.heap v
                → (v ≡ values.Null) ⊎ RunsOn (before u) w.memory v (special_on (before u) w.memory r from (reference_to found) (v ∷ others))
                (calls g.at (v ∷ others))
            of_got v others folder runs (inl e) = inl e
            of_got v others folder runs (inr o) = inr (record {
              reference = o.reference;
              is = o.is;
              object = o.object;
              there = o.there;
              runs = runs o.object.shape (ap is_external o.shape.is);
            })

      -- ---- of an initialiser

      init_call : r.name ≡ init → ReplacedCall u w.memory f point g
      init_call named =
          let found_init_name : found.member.name ≡ init = found_above.same_name ∙ named in
          let same : found ≡ its_calls.method = init_chosen special.selects found_init_name its_calls.method refl in
          let class : its_calls.method.class ≡ r.class = ap (λ (x : Declared). x.class) (sym same) ∙ init_class special.finds named found refl in
          let number : folder_number (before u) r.class ≡ Some g.at.class =
          subst (λ (name : Name). folder_number (before u) name ≡ Some g.at.class) class target.number in
          let apart : its_calls.method.class ≢ object = λ e.
          none-some g.at.class
          (sym (subst (λ (name : Name). folder_number (before u) name ≡ None) (sym e) is.program.base.of_object.outside) ∙ target.number) in
          let declares : IsMethod (headers_in (before u)) its_calls.method = subst (IsMethod (headers_in (before u))) same found_above.declares in
          let is_name : its_calls.method.member.name ≡ init = chosen_name ∙ named in
          let itself : reference_to its_calls.method ≡ r = λ i. record { class = class i; name = chosen_name i; desc = chosen_desc i } in
          let yes : bytes_eq r.name init ≡ true = (bytes_eq-Decides r.name init).1 named in
          let row = subst (λ (b : Bool). RowHolds d.stands.fits.scope d.stands.fits.frame
          (access_aside (either b (init_row d.stands.fits.scope d.stands.fits.frame r) (special_row d.stands.fits.scope d.stands.fits.frame r)))) yes
          (holds (call_special r from) special.op (plain_init r from (λ e. apart (class ∙ e)))) in
          let t = typed_receiver d.stands.fits.scope uninitialised d.stands.fits.frame r f row.operands d.stack in
          let may_be = subst (MayInitialise d.stands.fits.scope r) t.lowest row.further in
          let o = init_object d.stands.fits.scope r g.at.class objects d.stands.fits.reads.news number t.conforms may_be in
          let runs =
          init_runs
          (before u) w.memory g r its_calls.method t.value t.others target plain_special from is_name apart declares concrete o.object.shape o.inside in
          let on : RunsOn (before u) w.memory t.value (special_on (before u) w.memory r from (reference_to its_calls.method) (t.value ∷ t.others))
          (calls g.at (t.value ∷ t.others)) =
          record { reference = o.reference; is = o.is; object = o.object; there = o.there; runs = runs } in
          let works = subst (λ (all : List Value). work (before u) w.memory (call_special r from) all ≢ ends stuck) t.are goes.works in
          let link = found_init (before u) w.memory g r its_calls.method t.value t.others target plain_special itself named declares in
          let outcome =
          special_outcome (before u) w.memory g r its_calls.method t.value t.others target plain_special from its_calls.method link (inr on) works in
          let untested : tests_receiver g.scope ≡ false = untested_by is_name in
          finish (call_special r from) special.op tt goes.enough
          (subst (λ (all : List Value). ComesTo (before u) w.memory (call_special r from) all g) (sym t.are)
          (called (call_special r from) t.value t.others o.reference o.is untested outcome.1))
          (subst (λ (all : List Value). (unit : ℕ) → FitArguments (arguments g.scope unit) all) (sym t.are)
          (fit_instance r runnable.of_instance chosen_desc t.value t.others (receives t.value _ _ outcome.1) outcome.0))
          no_clinit where
            untested_by : its_calls.method.member.name ≡ init → tests_receiver g.scope ≡ false
            untested_by e =
                let name : is_init g.scope ≡ true = text_named (utf8_at g.scope.class.pool g.scope.method.name)
                (ap (λ (member : Member). member.name) (sym scope_of.member) ∙ e) in
                by (has g.scope.method.flags STATIC) refl name where
                  by : (b : Bool) → has g.scope.method.flags STATIC ≡ b → is_init g.scope ≡ true → tests_receiver g.scope ≡ false
                  by true e name = rw e refl
                  by false e name = rw (e, name) refl

            called : (op : Op) (v : Value) (others : List Value) (reference : ℕ) → v ≡ values.Ref reference → tests_receiver g.scope ≡ false
                → ((v ≡ values.Null) × (work (before u) w.memory op (v ∷ others) ≡ raises null_pointer))
                ⊎ ((reference : ℕ) × (v ≡ values.Ref reference) × (work (before u) w.memory op (v ∷ others) ≡ calls g.at (v ∷ others)))
                → ComesTo (before u) w.memory op (v ∷ others) g
            called op v others reference ref untested (inl e) = let no : values.Ref reference ≡ values.Null = sym ref ∙ e.0 in absurd cc
            called op v others reference ref untested (inr e) = comes_to_call (λ tested. absurd (false≢true (sym untested ∙ tested))) e.2

      any_special : IsClass (headers_of u.classes) (own_name caller.scope) ⊎ (r.name ≡ init) → ReplacedCall u w.memory f point g
      any_special of = by (bytes_eq r.name init) refl of where
        by : (b : Bool) → bytes_eq r.name init ≡ b → IsClass (headers_of u.classes) (own_name caller.scope) ⊎ (r.name ≡ init)
            → ReplacedCall u w.memory f point g
        by true e of = init_call ((bytes_eq-Decides r.name init).0 e)
        by false e (inl own) = special_call (λ named. false≢true (sym e ∙ (bytes_eq-Decides r.name init).1 named)) own
        by false e (inr named) = init_call named

    -- ---- by the sort of call

    by_runs : (opcode : ℕ) (r : Reference) (method : Declared) → Runs (headers_of u.classes) (own_name caller.scope) r opcode method
        → its_calls.opcode ≡ opcode → its_calls.reference ≡ r → its_calls.method ≡ method
        → ReplacedCall u w.memory f point g
    by_runs opcode r method runs e n x = of_runs runs e x (op_is ∙ ap (λ o. call_op u.links (row_scope caller.scope) o its_calls.reference) e
        ∙ ap (call_op u.links (row_scope caller.scope) opcode) n) where
          of_runs : {opcode : ℕ} {method : Declared} → Runs (headers_of u.classes) (own_name caller.scope) r opcode method
              → its_calls.opcode ≡ opcode → its_calls.method ≡ method
              → point.op ≡ call_op u.links (row_scope caller.scope) opcode r
              → ReplacedCall u w.memory f point g
          of_runs (runs_static method finds) e x op =
              static_call r op (subst (λ (y : Declared). FindsMethod (headers_of u.classes) r.class r.name r.desc (Some y)) (sym x) finds)
          of_runs (runs_virtual method finds class none) e x op =
              virtual_call r op (subst (λ (y : Declared). FindsMethod (headers_of u.classes) r.class r.name r.desc (Some y)) (sym x) finds)
              (subst (λ (y : Declared). IsClass (headers_of u.classes) y.class) (sym x) class)
              (subst (IsOverriddenByNone (headers_of u.classes)) (sym x) none)
          of_runs (runs_special found method start of plain finds of_instance starts selects) e x op =
              any_special r found start (record {
                opcode = e;
                reference = n;
                op = op;
                finds = moved u is (λ hs. FindsMethod hs r.class r.name r.desc (Some found)) finds;
                of_instance = of_instance;
                starts = moved u is (λ hs. StartsSpecial hs (own_name caller.scope) r.class start) starts;
                selects = moved u is (λ hs. Selects hs start found Special (chosen_method its_calls.method))
                    (subst (λ (y : Declared). Selects (headers_of u.classes) start found Special (chosen_method y)) (sym x) selects);
                no_handle = moved u is (λ hs. ¬ IsPolymorphic hs r.class r.name) plain;
              }) of

  -- What a call comes to that flat code replaces by the callee's own code.
  pub replaced_call : (w : World) (f : MethodState) (rest : List RunFrame) (point : Point) (caller g : Coded) (placed : Placed)
      (host : MethodAt) (chain : List MethodAt)
      → TypedWorld (before u) u.typings w
      → w.frames ≡ Method f ∷ rest
      → f.at ≡ caller.at
      → HasFrames u.classes u.typed caller.at caller.scope caller.frames
      → HasFrames u.classes u.typed g.at g.scope g.frames
      → slice_get (instructions caller.scope) f.place ≡ Some placed
      → IsReplaced u.classes u.typed host chain caller.at placed.at g.at
      → point_at (before u) f.at f.place ≡ Some point
      → ReplacedCall u w.memory f point g
  replaced_call w f rest point caller g placed host chain typed frames at has_frames has_also stands replaces point_is =
      let parts = callee_parts replaces.is_callee in
      let caller_is : parts.caller ≡ caller.scope = same_Some parts.caller caller.scope (sym parts.is_caller ∙ has_frames.is_scope) in
      let callee_is : parts.scope ≡ g.scope = same_Some parts.scope g.scope (sym parts.is_scope ∙ has_also.is_scope) in
      let its_calls : Calls u.classes caller.scope placed.at g.at = subst (λ (s : Scope). Calls u.classes s placed.at g.at) caller_is parts.calls in
      let may = subst (λ (s : Scope). MayStandIn u.classes parts.host_class s parts.frames) callee_is parts.stands in
      by_runs w f rest typed frames point caller g placed at has_frames has_also stands point_is its_calls parts.host_class parts.frames may
      its_calls.opcode its_calls.reference its_calls.method its_calls.runs refl refl refl
