-- What the row of each call that is replaced says: what it leaves, and what it passes.
use Rattle.std.proofs.Common.{◌≡◌, ◌≢◌, ℕ, Bool, true, false, List, length, slice_get, Some, refl, sym, ap, subst, ◌∙◌, inl, inr}
use Rattle.std.proofs.lemmas.Bool.{false≢true}
use Rattle.std.proofs.lemmas.Option.{same_Some}
use Rattle.class_model.specs.Members.{STATIC, has}
use Rattle.class_model.specs.Names.{init}
use Rattle.class_model.specs.PoolChecks.{utf8_at}
use Rattle.class_model.specs.declared.class_file.MethodAt.{MethodAt}
use Rattle.class_model.specs.declared.frame.Frame.{Frame}
use Rattle.class_model.specs.declared.frame.VType.{VType}
use Rattle.class_model.specs.declared.frame.VType.TheVariants as types
use Rattle.class_model.specs.declared.header.Member.{Member}
use Rattle.class_model.specs.declared.instr.Instr.TheVariants.{Invoke}
use Rattle.class_model.specs.declared.instr.Placed.{Placed}
use Rattle.class_model.specs.declared.opcodes.TheConstants.{INVOKESPECIAL, INVOKESTATIC, INVOKEVIRTUAL}
use Rattle.class_tree.specs.Headers.{Headers, Name, headers_of}
use Rattle.expanded_code.specs.Callees.{Finds, IsCall, IsClass, Runs, StandsAt, own_name, runs_special, runs_static, runs_virtual}
use Rattle.expanded_code.specs.Expanded.{arguments, expanded}
use Rattle.expanded_code.specs.Expansions.{Coded, Expansion}
use Rattle.expanded_runs.proofs.Runs.CallLaws.{CallLaws, headers, text_named}
use Rattle.expanded_runs.proofs.Runs.CalledNames.{method_at, run_has_name}
use Rattle.expanded_runs.proofs.Runs.LinkedInstrs.{instr_there}
use Rattle.expanded_runs.proofs.Runs.Positions.{IsReplacedAt, Standing, frames_of, inner_setting, instrs_of, scope_of}
use Rattle.expanded_runs.proofs.Runs.Setup.{IsSetup, Setup, before}
use Rattle.expanded_runs.proofs.Runs.Standings.{IsStanding, Stands}
use Rattle.expanded_runs.proofs.Types.CallFacts.{CallFacts}
use Rattle.expanded_runs.proofs.Types.CalledObjects.{IsOn, of_reference, static_flag, this_passed, virtual_flag, virtual_on}
use Rattle.expanded_runs.proofs.Types.Edges.{placed_type}
use Rattle.expanded_runs.proofs.Types.EntryFrames.{PassedValues, this_of}
use Rattle.expanded_runs.proofs.Types.FrameFacts.{FrameFacts}
use Rattle.expanded_runs.proofs.Types.OwnPoints.{TypingLaws, row_at, scope_headers}
use Rattle.expanded_runs.proofs.Types.PlainCalls.{static_facts, static_passes, virtual_facts, virtual_passes}
use Rattle.expanded_runs.proofs.Types.SiteObjects.{folder_no_array}
use Rattle.expanded_runs.proofs.Types.StandingPlaces.{CalleeHere, callee_here, number_of_instr}
use Rattle.expanded_runs.proofs.Types.ThroughClass.{IsKnown}
use Rattle.flow_code.specs.FlatCode.{FlatCode}
use Rattle.member_link.specs.Assignability.{IsAssignable}
use Rattle.member_link.specs.BodyTyping.{RowHolds}
use Rattle.member_link.specs.DeclaredMembers.{Declared}
use Rattle.member_link.specs.Machine.Programs.{headers_in}
use Rattle.member_link.specs.Methods.{IsPolymorphic}
use Rattle.member_link.specs.References.{Reference}
use Rattle.member_link.specs.Rows.Operands.{topmost}
use Rattle.member_link.specs.Rows.Table.{row_of}
use Rattle.member_link.specs.Scope.{Scope, is_init, row_scope, scope_at}
use Rattle.member_link.specs.Selection.{Selects, chosen_method}
use Rattle.member_link.specs.SpecialStart.{StartsSpecial}
use Rattle.member_link.specs.declared.selection.CallForm.TheVariants.{Special}

-- both, of a call in its place
pub record RowSays (flat : FlatCode) (hs : Headers) (p : Standing) (k : ℕ) (placed : Placed) (frame : Frame) (g : Coded) (inner : Expansion)
    : Type 0 where
  pub leaves : CallFacts flat hs p placed frame g
  pub passes : PassedValues flat hs p.setting (inner_setting p k placed frame g inner) g.scope (topmost (length (arguments g.scope 0)) frame.stack)

module _ (u : Setup) (is_setup : IsSetup u) (call_laws : CallLaws) (laws : TypingLaws) (facts : FrameFacts u.classes u.typed)
    (host : Coded) (e : Expansion)
    (stands : (chain : List MethodAt) (p : Standing) → IsStanding host e chain p → Stands u.classes u.typed host e chain p)
    (s : Scope) (is_host : scope_at u.classes host.at ≡ Some s) (no_init : is_init s ≡ false) where
  host_headers : s.headers ≡ headers_of u.classes
  host_headers = scope_headers u.classes host.at s is_host

  module _ {chain : List MethodAt} {p : Standing} (standing : IsStanding host e chain p) (k : ℕ) (placed : Placed) (frame : Frame) (g : Coded)
      (inner : Expansion) (here : IsReplacedAt p k placed frame g inner) where
    pub there : CalleeHere laws host e stands s is_host chain p placed g inner
    there = callee_here laws host e stands s is_host standing here

    abbrev from : MethodAt
    from = p.setting.coded.at

    pub known : (n : ℕ) (type : VType) → slice_get frame.stack n ≡ Some type → IsKnown (scope_of p).headers type
    known n type is = facts.known p.setting.coded.at (scope_of p) (frames_of p) there.caller k frame here.has_frame n type is

    pub row : RowHolds (row_scope (scope_of p)) frame (row_of (row_scope (scope_of p)) frame placed.at placed.instr)
    row = row_at laws is_setup.types facts host e stands s host_headers standing k placed frame here.is here.has_frame

    pub instr_is : {opcode : ℕ} {r : Reference} (call : IsCall (scope_of p) placed.at opcode r) → placed.instr ≡ Invoke opcode call.index call.count
    instr_is {opcode} call =
        let found = instr_there (scope_of p) placed.at (Invoke opcode call.index call.count) call.is in
        let same : found.placed ≡ placed =
        same_Some found.placed placed
        (sym found.is ∙ ap (slice_get (instrs_of p)) (number_of_instr laws host e stands s is_host standing k placed here.is) ∙ here.is) in
        sym (ap (λ (x : Placed). x.instr) same) ∙ found.same

    pub own_classes : (scope_of p).headers ≡ headers_in (before u)
    own_classes = scope_headers u.classes p.setting.coded.at (scope_of p) there.caller.is_scope ∙ sym (headers u is_setup)

    -- the object of a call may stand for what the callee's first frame says of it
    pub on_passes : is_init g.scope ≡ false → (object said : VType) → IsOn (headers_in (before u)) object (own_name g.scope)
        → IsAssignable (scope_of p).headers (this_of g.scope) said
        → IsAssignable (scope_of p).headers (placed_type (expanded host e) p.setting object)
        (placed_type (expanded host e) (inner_setting p k placed frame g inner) said)
    on_passes other object said on is =
        this_passed (expanded host e) p.setting (inner_setting p k placed frame g inner) g.scope other
        (folder_no_array u is_setup call_laws laws facts host e stands s is_host no_init g.at g.scope there.callee.is_scope) object said
        (subst (λ (hs : Headers). IsOn hs object (own_name g.scope)) (sym own_classes) on) is

    module _ (method : Declared) (at_callee : StandsAt u.classes g.at method) where
      -- ---- a static call

      static_row : (r : Reference) → IsCall (scope_of p) placed.at INVOKESTATIC r → Finds (headers_of u.classes) r method
          → RowSays (expanded host e) (scope_of p).headers p k placed frame g inner
      static_row r call finds =
          let of = of_reference u is_setup call_laws from (scope_of p) there.caller.is_scope placed.at g there.callee.is_scope method at_callee r finds in
          let static =
          static_flag u is_setup call_laws from (scope_of p) there.caller.is_scope placed.at g there.callee.is_scope method at_callee call finds in
          record {
            leaves = static_facts (expanded host e) p k placed frame g inner known call.index call.count r call.names of.desc row static (instr_is call);
            passes = static_passes (expanded host e) p k placed frame g inner known call.index call.count r call.names of.desc row static (instr_is call);
          }

      -- ---- a virtual call

      virtual_row : is_init g.scope ≡ false → (r : Reference) → IsCall (scope_of p) placed.at INVOKEVIRTUAL r → Finds (headers_of u.classes) r method
          → IsClass (headers_of u.classes) method.class
          → RowSays (expanded host e) (scope_of p).headers p k placed frame g inner
      virtual_row other r call finds class =
          let of = of_reference u is_setup call_laws from (scope_of p) there.caller.is_scope placed.at g there.callee.is_scope method at_callee r finds in
          let instance =
          virtual_flag u is_setup call_laws from (scope_of p) there.caller.is_scope placed.at g there.callee.is_scope method at_callee call finds in
          record {
            leaves =
                virtual_facts (expanded host e) p k placed frame g inner known call.index call.count r call.names of.desc row instance this_passes
                (instr_is call);
            passes =
                virtual_passes (expanded host e) p k placed frame g inner known call.index call.count r call.names of.desc row instance this_passes
                (instr_is call);
          } where
            this_passes : (object said : VType) → IsAssignable (scope_of p).headers object (types.Object r.class)
                → IsKnown (scope_of p).headers object
                → IsAssignable (scope_of p).headers (this_of g.scope) said
                → IsAssignable (scope_of p).headers (placed_type (expanded host e) p.setting object)
                (placed_type (expanded host e) (inner_setting p k placed frame g inner) said)
            this_passes object said assignable is_known is =
                on_passes other object said
                (virtual_on u is_setup call_laws from (scope_of p) there.caller.is_scope placed.at g there.callee.is_scope method at_callee r finds class
                object (subst (λ (hs : Headers). IsAssignable hs object (types.Object r.class)) own_classes assignable)) is

    -- ---- by the sort of call

    -- what is left: special calls, and those of initialisers
    pub record Others : Type 0 where
      pub special : (method : Declared) → StandsAt u.classes g.at method → (r : Reference) (found : Declared) (start : Name)
          → IsCall (scope_of p) placed.at INVOKESPECIAL r
          → is_init g.scope ≡ false
          → r.name ≢ init
          → IsClass (headers_of u.classes) (own_name (scope_of p))
          → ¬ IsPolymorphic (headers_of u.classes) r.class r.name
          → Finds (headers_of u.classes) r found
          → has found.member.flags STATIC ≡ false
          → StartsSpecial (headers_of u.classes) (own_name (scope_of p)) r.class start
          → Selects (headers_of u.classes) start found Special (chosen_method method)
          → RowSays (expanded host e) (scope_of p).headers p k placed frame g inner
      pub initialiser : is_init g.scope ≡ true → RowSays (expanded host e) (scope_of p).headers p k placed frame g inner

    -- a callee that is no initialiser has another name
    other_name : (method : Declared) → StandsAt u.classes g.at method → is_init g.scope ≡ false → {opcode : ℕ} {r : Reference}
        → Runs (headers_of u.classes) (own_name (scope_of p)) r opcode method
        → r.name ≢ init
    other_name method at_callee other runs named =
        let own = method_at u.classes g.at g.scope there.callee.is_scope method at_callee in
        let is : is_init g.scope ≡ true =
        text_named (utf8_at g.scope.class.pool g.scope.method.name) (ap (λ (m : Member). m.name) own.member ∙ run_has_name runs ∙ named) in
        false≢true (sym other ∙ is)

    pub row_says : Others → RowSays (expanded host e) (scope_of p).headers p k placed frame g inner
    row_says others = by (is_init g.scope) refl where
      of_runs : {opcode : ℕ} {r : Reference} {method : Declared} → is_init g.scope ≡ false → IsCall (scope_of p) placed.at opcode r
          → StandsAt u.classes g.at method
          → r.name ≢ init
          → Runs (headers_of u.classes) (own_name (scope_of p)) r opcode method
          → RowSays (expanded host e) (scope_of p).headers p k placed frame g inner
      of_runs {r = r} other call at_callee named (runs_static method finds) = static_row method at_callee r call finds
      of_runs {r = r} other call at_callee named (runs_virtual method finds class alone) = virtual_row method at_callee other r call finds class
      of_runs {r = r} other call at_callee named (runs_special found method start (inl class) no_handle finds instance starts selects) =
          others.special method at_callee r found start call other named class no_handle finds instance starts selects
      of_runs {r = r} other call at_callee named (runs_special found method start (inr init_named) no_handle finds instance starts selects) =
          absurd (named init_named)

      by : (initialiser : Bool) → is_init g.scope ≡ initialiser → RowSays (expanded host e) (scope_of p).headers p k placed frame g inner
      by true is = others.initialiser is
      by false is =
          of_runs is there.calls.is_call there.calls.stands (other_name there.calls.method there.calls.stands is there.calls.runs) there.calls.runs
