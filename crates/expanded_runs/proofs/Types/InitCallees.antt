-- Calls of instance initialisers in a folder: the method that such a call runs, and what its row says.
use Rattle.std.proofs.Common.{◌≡◌, ◌+◌, ℕ, suc, true, false, List, [], ◌∷◌, length, Some, refl, sym, ap, subst, ◌∙◌, arith}
use Rattle.std.proofs.lemmas.Option.{same_Some}
use Rattle.class_model.specs.Descriptors.{kind_of, parameters_of, units_of}
use Rattle.class_model.specs.Members.{STATIC, has}
use Rattle.class_model.specs.Names.{init}
use Rattle.class_model.specs.Pool.{constant_at}
use Rattle.class_model.specs.declared.class_file.MethodAt.{MethodAt}
use Rattle.class_model.specs.declared.descriptor.FieldType.{FieldType}
use Rattle.class_model.specs.declared.frame.Frame.{Frame}
use Rattle.class_model.specs.declared.frame.VType.{VType}
use Rattle.class_model.specs.declared.header.Member.{Member}
use Rattle.class_model.specs.declared.instr.Instr.TheVariants.{Invoke}
use Rattle.class_model.specs.declared.opcodes.TheConstants.{INVOKESPECIAL}
use Rattle.class_tree.specs.Headers.{Headers, headers_of}
use Rattle.expanded_code.specs.Callees.{Calls, Finds, InitialisesAt, IsCall, Runs, own_name, runs_special, runs_static, runs_virtual}
use Rattle.expanded_code.specs.Expanded.{arguments, arguments_from}
use Rattle.expanded_code.specs.Expansions.{Coded}
use Rattle.expanded_runs.proofs.Runs.CallLaws.{CallLaws, init_chosen, moved, same_desc}
use Rattle.expanded_runs.proofs.Runs.CallTargets.{is_target}
use Rattle.expanded_runs.proofs.Runs.CalledNames.{init_named, init_of_named, method_at, run_has_name}
use Rattle.expanded_runs.proofs.Runs.LinkedInstrs.{call_linked}
use Rattle.expanded_runs.proofs.Runs.PositionLaws.{length_arguments}
use Rattle.expanded_runs.proofs.Runs.Setup.{IsSetup, Setup, before}
use Rattle.member_link.specs.DeclaredMembers.{Declared}
use Rattle.member_link.specs.Machine.Links.{reference_to}
use Rattle.member_link.specs.Machine.Programs.{headers_in, place_of_method}
use Rattle.member_link.specs.Methods.{FindsMethod, IsPolymorphic}
use Rattle.member_link.specs.References.{Reference}
use Rattle.member_link.specs.Rows.MemberRows.{receiver}
use Rattle.member_link.specs.Scope.{Scope, is_init, own_descriptor, scope_at}
use Rattle.member_link.specs.Signatures.{reference_of}

count_from : (unit : ℕ) (params : List FieldType) → length (arguments_from unit params) ≡ length params
count_from unit [] = refl
count_from unit (type ∷ params) = ap suc (count_from (unit + units_of (kind_of type)) params)

-- ---- calls at an offset

-- two calls at an offset are one
pub record SameCall (opcode other : ℕ) (r q : Reference) : Type 0 where
  pub opcode_is : opcode ≡ other
  pub reference_is : r ≡ q

pub one_call : (s : Scope) (at : ℕ) {opcode other : ℕ} {r q : Reference} → IsCall s at opcode r → IsCall s at other q → SameCall opcode other r q
one_call s at {opcode} {other} {r} {q} one two =
    let same : Invoke opcode one.index one.count ≡ Invoke other two.index two.count =
    same_Some (Invoke opcode one.index one.count) (Invoke other two.index two.count) (sym one.is ∙ two.is) in
    let index : one.index ≡ two.index = cc in
    record {
      opcode_is = cc;
      reference_is =
          same_Some r q
          (sym one.names ∙ ap (λ (n : ℕ). reference_of s.class.pool (constant_at s.class.pool n)) index ∙ two.names);
    }

-- and a call of an initialiser there is on one object
pub one_object : (s : Scope) (frames : List Frame) (at : ℕ) {object other : VType} {r q : Reference} → InitialisesAt s frames at object r
    → InitialisesAt s frames at other q → object ≡ other
one_object s frames at {object} {other} {r} {q} one two =
    let call = one_call s at one.is_call two.is_call in
    let frame : one.frame ≡ two.frame = same_Some one.frame two.frame (sym one.before ∙ two.before) in
    sym one.on
    ∙ ap (λ (f : Frame). receiver f r.desc) frame
    ∙ ap (λ (x : Reference). receiver two.frame x.desc) call.reference_is
    ∙ two.on

module _ (u : Setup) (is_setup : IsSetup u) (laws : CallLaws) where
  abbrev headers : Headers
  headers = headers_of u.classes

  -- ---- the method that is run

  pub record IsInitRun (reference : Reference) (opcode : ℕ) (method : Declared) : Type 0 where
    pub special : opcode ≡ INVOKESPECIAL
    pub finds : Finds (headers_of u.classes) reference method
    pub class : method.class ≡ reference.class
    pub desc : method.member.desc ≡ reference.desc
    pub instance : has method.member.flags STATIC ≡ false

  module _ (from : MethodAt) (s : Scope) (scope : scope_at u.classes from ≡ Some s) where
    pub init_run : {at opcode : ℕ} {reference : Reference} {method : Declared} → IsCall s at opcode reference
        → Runs (headers_of u.classes) (own_name s) reference opcode method
        → reference.name ≡ init
        → IsInitRun reference opcode method
    init_run call (runs_static method finds) of_init =
        let linked = call_linked u is_setup from s scope call in
        absurd (linked.linked.1 of_init)
    init_run call (runs_virtual method finds is_class alone) of_init =
        let linked = call_linked u is_setup from s scope call in
        absurd (linked.linked.1 of_init)
    init_run {reference = r} {method = m} call (runs_special found method start is_class no_handle finds of_instance starts selects) of_init =
        let here = moved u is_setup (λ hs. FindsMethod hs r.class r.name r.desc (Some found)) finds in
        let above = laws.finds_above (headers_in (before u)) r.class r.name r.desc found is_setup.program.hierarchy here in
        let same : found ≡ m = init_chosen selects (above.same_name ∙ of_init) m refl in
        let desc : found.member.desc ≡ r.desc =
        same_desc u is_setup r found above (moved u is_setup (λ hs. ¬ IsPolymorphic hs r.class r.name) no_handle) in
        record {
          special = refl;
          finds = subst (λ (d : Declared). Finds (headers_of u.classes) r d) same finds;
          class = init_of_named finds selects of_init;
          desc = ap (λ (d : Declared). d.member.desc) (sym same) ∙ desc;
          instance = ap (λ (d : Declared). has d.member.flags STATIC) (sym same) ∙ of_instance;
        }

    -- the initialiser in whose place a callee stands
    pub record InitCallee (at : ℕ) (g : Coded) : Type 0 where
      pub reference : Reference
      pub is_call : IsCall s at INVOKESPECIAL reference
      pub of_init : reference.name ≡ init
      pub own : own_name g.scope ≡ reference.class
      pub desc : own_descriptor g.scope ≡ reference.desc
      pub instance : has g.scope.method.flags STATIC ≡ false

    pub init_callee : (at : ℕ) (g : Coded) → Calls u.classes s at g.at → scope_at u.classes g.at ≡ Some g.scope → is_init g.scope ≡ true
        → InitCallee at g
    init_callee at g calls callee_scope is =
        let own = method_at u.classes g.at g.scope callee_scope calls.method calls.stands in
        let named : calls.reference.name ≡ init =
        sym (run_has_name calls.runs) ∙ init_named u.classes g.at g.scope callee_scope calls.method calls.stands is in
        let run = init_run calls.is_call calls.runs named in
        record {
          reference = calls.reference;
          is_call = subst (λ (o : ℕ). IsCall s at o calls.reference) run.special calls.is_call;
          of_init = named;
          own = own.own ∙ run.class;
          desc = ap (λ (m : Member). m.desc) own.member ∙ run.desc;
          instance = ap (λ (m : Member). has m.flags STATIC) own.member ∙ run.instance;
        }

    -- its receiver and parameters
    pub init_arguments : {at : ℕ} {g : Coded} (call : InitCallee at g) (unit : ℕ)
        → length (arguments g.scope unit) ≡ length (parameters_of call.reference.desc) + 1
    init_arguments {at} {g} call unit =
        length_arguments g.scope unit ∙ all ∙ omega arith where
          all : length (arguments g.scope 0) ≡ suc (length (parameters_of call.reference.desc))
          all = rw (call.instance, call.desc) (ap suc (count_from (0 + 1) (parameters_of call.reference.desc)))

    -- one callee alone is the initialiser that a call runs
    pub one_callee : {at : ℕ} {r : Reference} → IsCall s at INVOKESPECIAL r → r.name ≡ init
        → (one other : MethodAt) (g h : Scope)
        → Calls u.classes s at one → scope_at u.classes one ≡ Some g
        → Calls u.classes s at other → scope_at u.classes other ≡ Some h
        → one ≡ other
    one_callee {at} {r} call of_init one other g h calls scope_one also scope_other =
        let first = one_call s at calls.is_call call in
        let second = one_call s at also.is_call call in
        let run = init_run calls.is_call calls.runs (ap (λ (x : Reference). x.name) first.reference_is ∙ of_init) in
        let run_also = init_run also.is_call also.runs (ap (λ (x : Reference). x.name) second.reference_is ∙ of_init) in
        let finds = subst (λ (x : Reference). Finds (headers_of u.classes) x calls.method) first.reference_is run.finds in
        let finds_also = subst (λ (x : Reference). Finds (headers_of u.classes) x also.method) second.reference_is run_also.finds in
        let same : calls.method ≡ also.method =
        same_Some calls.method also.method
        (laws.finds_one (headers_of u.classes) r.class r.name r.desc (Some calls.method) (Some also.method) finds finds_also) in
        let target = is_target u.classes u.links is_setup.tree.folder is_setup.hierarchy one g scope_one calls.method calls.stands in
        let target_also = is_target u.classes u.links is_setup.tree.folder is_setup.hierarchy other h scope_other also.method also.stands in
        same_Some one other
        (sym target.place ∙ ap (λ (d : Declared). place_of_method (before u) (reference_to d)) same ∙ target_also.place)
