-- The parts of the proof together: a program whose hosts run expanded flat codes runs as the folder's does.
use Rattle.std.proofs.Common.{◌≡◌, ◌≢◌, ℕ, suc, Bool, true, false, List, [], ◌∷◌, bytes_eq, length, slice_get, Option, Some, None, IsTrue, refl, sym, ap, subst, ◌∙◌, arith, inr}
use Rattle.std.proofs.lemmas.Option.{same_Some}
use Rattle.std.proofs.lemmas.List.{length-reverse}
use Rattle.std.proofs.lemmas.Slice.Eq.{bytes_eq-Decides}
use Rattle.class_model.specs.Members.{has, is_text}
use Rattle.class_model.specs.Names.{clinit}
use Rattle.class_model.specs.PoolChecks.{text_or_empty, utf8_at}
use Rattle.class_model.specs.declared.class_file.MethodAt.{MethodAt}
use Rattle.class_model.specs.declared.descriptor.FieldType.{FieldType}
use Rattle.class_model.specs.declared.descriptor.Kind.{Kind}
use Rattle.class_model.specs.declared.frame.Frame.{Frame}
use Rattle.class_model.specs.declared.frame.VType.{VType}
use Rattle.class_model.specs.declared.header.Member.{Member}
use Rattle.class_model.specs.declared.instr.Instr.{Instr}
use Rattle.class_model.specs.declared.instr.Instr.TheVariants.{Return}
use Rattle.class_model.specs.declared.instr.Placed.{Placed}
use Rattle.expanded_code.specs.Callees.{LeavesResult}
use Rattle.expanded_code.specs.ExpandAnswers.{is_initialiser as initialiser_is_no_host}
use Rattle.expanded_code.specs.Expanded.{expanded}
use Rattle.expanded_code.specs.Expansions.{Coded, Expands, Expansion}
use Rattle.expanded_code.specs.Sites.{HasFrames}
use Rattle.expanded_runs.proofs.AloneProgram.{EachTyped, OneEach}
use Rattle.expanded_runs.proofs.Runs.Bars.{BarLaws, bars_alike, own_stores}
use Rattle.expanded_runs.proofs.Runs.CallLaws.{CallLaws}
use Rattle.expanded_runs.proofs.Runs.CallTargets.{AreRead, RunsCode, runs_code}
use Rattle.expanded_runs.proofs.Runs.CalleeLaws.{Callee, CodeLaws, replaced_callee}
use Rattle.expanded_runs.proofs.Runs.CalleeReturns.{ReturnsAlone}
use Rattle.expanded_runs.proofs.Runs.FlatCodes.{own_code}
use Rattle.expanded_runs.proofs.Runs.FlatFacts.{FlatFacts}
use Rattle.expanded_runs.proofs.Runs.FlatOpLaws.{Bars, at_place, host_catches_at}
use Rattle.expanded_runs.proofs.Runs.FlatOps.{AtPlace, own_result}
use Rattle.expanded_runs.proofs.Runs.FlatPoints.{catches_there, flat_code_at, host_code, host_expands, host_flat, host_frames}
use Rattle.expanded_runs.proofs.Runs.OpTurns.{does_of}
use Rattle.expanded_runs.proofs.Runs.OwnOps.{own_point_in_both}
use Rattle.expanded_runs.proofs.Runs.OwnTurns.{OwnParts}
use Rattle.expanded_runs.proofs.Runs.Positions.{IsReplacedAt, Standing, instrs_of}
use Rattle.expanded_runs.proofs.Runs.ReplacedCallLaws.{replaced_call}
use Rattle.expanded_runs.proofs.Runs.ReplacedCalls.{IsPlainMethod}
use Rattle.expanded_runs.proofs.Runs.SameBoth.{begin_alike, same_programs}
use Rattle.expanded_runs.proofs.Runs.SameStanding.{InFlat}
use Rattle.expanded_runs.proofs.Runs.Setup.{IsSetup, Setup, after, before}
use Rattle.expanded_runs.proofs.Runs.Simulation.{Parts, runs_equally}
use Rattle.expanded_runs.proofs.Runs.SiteInitialisers.{no_clinit_stands, this_in_init}
use Rattle.expanded_runs.proofs.Runs.StandingBegins.{settles}
use Rattle.expanded_runs.proofs.Runs.StandingCodes.{standing_of}
use Rattle.expanded_runs.proofs.Runs.StandingLaws.{as_replaced, becomes_as, stands_so}
use Rattle.expanded_runs.proofs.Runs.StandingMore.{compares}
use Rattle.expanded_runs.proofs.Runs.StandingParts.{arguments_room}
use Rattle.expanded_runs.proofs.Runs.Standings.{IsStanding, Stands, callee_stands, host_stands}
use Rattle.flow_code.specs.TypedFrames.{typed_frames_at}
use Rattle.machine_values.specs.Frames.{MethodState}
use Rattle.machine_values.specs.Heaps.{Heap}
use Rattle.machine_values.specs.declared.action.Action.{Action}
use Rattle.machine_values.specs.declared.frame.RunFrame.{RunFrame}
use Rattle.machine_values.specs.declared.frame.RunFrame.TheVariants.{Method}
use Rattle.machine_values.specs.declared.value.Value.{Value}
use Rattle.member_link.specs.Machine.Acting.{act}
use Rattle.member_link.specs.Machine.Codes.{return_op}
use Rattle.member_link.specs.Machine.Ops.{meaningless}
use Rattle.member_link.specs.Machine.Performing.{SYNCHRONIZED, is_initialiser}
use Rattle.member_link.specs.Machine.Programs.{Point, Program, point_at}
use Rattle.member_link.specs.Machine.Stepping.{is_library_turn}
use Rattle.member_link.specs.Machine.Worlds.{World, start}
use Rattle.member_link.specs.RowScope.{RowScope}
use Rattle.member_link.specs.Scope.{instructions, is_clinit}
use Rattle.same_runs.specs.EqualRuns.{EqualRuns}
use Rattle.same_runs.specs.Renamings.{Names}
use Rattle.same_runs.specs.SamePrograms.{same_op}
use Rattle.typed_runs.specs.Conforming.{AllConform, and_value, no_values}
use Rattle.typed_runs.specs.TypedFrames.{Does}
use Rattle.typed_runs.specs.TypedPoints.{IsLinkedOp}
use Rattle.typed_runs.specs.TypedPrograms.{IsTypedProgram, Typings}
use Rattle.typed_runs.specs.TypedWorlds.{StaysTyped, TypedWorld}

-- laws of other crates
pub record RunLaws : Type 0 where
  pub code : CodeLaws
  pub each : EachTyped
  pub one : OneEach
  pub bars : BarLaws
  pub calls : CallLaws
  pub starts : (P : Program) (T : Typings) → IsTypedProgram P T → TypedWorld P T start
  pub acts : (P : Program) (T : Typings) (w : World) (action : Action)
      → TypedWorld P T w
      → is_library_turn w.frames ≡ true
      → StaysTyped P T w (act P action w)

-- ---- lists

conform_count : {P : Program} {s : RowScope} {heap : Heap} {types : List VType} {values : List Value} → AllConform P s heap types values
    → length values ≡ length types
conform_count no_values = refl
conform_count (and_value one rest) = ap suc (conform_count rest)

empty_is : {A : Type 0} (items : List A) → length items ≡ 0 → items ≡ []
empty_is [] none = refl
empty_is (item ∷ items) some = absurd (omega (arith, some))

single_is : {A : Type 0} (items : List A) → length items ≡ 1 → (item : A) × (items ≡ item ∷ [])
single_is [] none = absurd (omega (arith, none))
single_is (item ∷ []) one = (item, refl)
single_is (item ∷ more ∷ items) many = absurd (omega (arith, many))

-- a text that is the name of class initialisers
clinit_named : (text : Option (List ℕ)) → bytes_eq (text_or_empty text) clinit ≡ true → is_text clinit text ≡ true
clinit_named None is = absurd (cc is)
clinit_named (Some text) is = (bytes_eq-Decides clinit text).1 (sym ((bytes_eq-Decides text clinit).0 is))

-- the stack at a return
returns_alone : (result : Option FieldType) (kind : Option Kind) (frame : Frame) (stack : List Value) → return_op result kind ≢ meaningless
    → LeavesResult (Return kind) frame
    → length stack ≡ length frame.stack
    → ReturnsAlone result stack
returns_alone None None frame stack means leaves count = empty_is stack (count ∙ ap length leaves)
returns_alone None (Some kind) frame stack means leaves count = absurd (means refl)
returns_alone (Some type) None frame stack means leaves count = absurd (means refl)
returns_alone (Some type) (Some kind) frame stack means leaves count = single_is stack (count ∙ leaves)

module _ (u : Setup) (is : IsSetup u) (laws : RunLaws) where
  abbrev P : Program
  P = before u

  abbrev Q : Program
  Q = after u

  read : AreRead u.classes
  read = is.tree.folder

  -- ---- methods that stand in flat code

  module _ (host : Coded) (e : Expansion) (is_flat : u.flats host.at ≡ Some (expanded host e))
      (has_frames : HasFrames u.classes u.typed host.at host.scope host.frames)
      (expands : Expands u.classes u.typed host.at [] host.at (instructions host.scope) e) where
    stands : {chain : List MethodAt} {p : Standing} → IsStanding host e chain p → Stands u.classes u.typed host e chain p
    stands standing = stands_so laws.each laws.one u.classes u.typed is.types host e has_frames expands standing

    no_class_initialiser : ¬ IsTrue (is_clinit host.scope)
    no_class_initialiser initialises =
        (is.expanded host.at (expanded host e) is_flat).0 (initialiser_is_no_host host.scope has_frames.is_scope (inr initialises))

    -- a callee in place of a call
    callee_of_call : {chain : List MethodAt} {p : Standing} (k : ℕ) (placed : Placed) (frame : Frame) (g : Coded) (inner : Expansion)
        → IsStanding host e chain p
        → IsReplacedAt p k placed frame g inner
        → Callee u g × HasFrames u.classes u.typed g.at g.scope g.frames
    callee_of_call {chain = chain} {p = p} k placed frame g inner standing here =
        let known = as_replaced (becomes_as chain p.setting.coded.at (instrs_of p) p.expansion (stands standing).expands k placed here.is) here.becomes in
        (replaced_callee u g known.1 known.0, known.1)

    plain : (chain : List MethodAt) (p : Standing) (k : ℕ) (placed : Placed) (frame : Frame) (g : Coded) (inner : Expansion)
        → IsStanding host e chain p
        → IsReplacedAt p k placed frame g inner
        → IsPlainMethod u g
    plain chain p k placed frame g inner standing here = record {
      method = runs.method;
      is = runs.is;
      no_initialiser = by (is_initialiser runs.method) refl;
      unlocked = rw (no_monitor) refl;
      code = runs.code;
      no_handlers = callee.0.may.no_handlers;
    } where
      callee : Callee u g × HasFrames u.classes u.typed g.at g.scope g.frames
      callee = callee_of_call k placed frame g inner standing here

      runs : RunsCode u.classes u.links g.at g.scope
      runs = runs_code u.classes u.links read g.at g.scope callee.1.is_scope

      no_monitor : has runs.method.member.flags SYNCHRONIZED ≡ false
      no_monitor = ap (λ (member : Member). has member.flags SYNCHRONIZED) runs.member ∙ callee.0.may.no_monitor

      by : (b : Bool) → is_initialiser runs.method ≡ b → is_initialiser runs.method ≡ false
      by false other = other
      by true same =
          absurd (no_clinit_stands u is laws.each laws.one host e has_frames expands no_class_initialiser
          (callee_stands k placed frame g inner standing here)
          (clinit_named (utf8_at g.scope.class.pool g.scope.method.name)
          (sym (ap (λ (member : Member). bytes_eq member.name clinit) runs.member) ∙ same)))

    bars : Bars u host e
    bars = bars_alike u is laws.bars host e is_flat has_frames expands (this_in_init u.classes u.typed)

    placed_at : {chain : List MethodAt} {p : Standing} → IsStanding host e chain p → (k : ℕ) (point : Point)
        → point_at P p.setting.coded.at k ≡ Some point
        → (placed : Placed) × (slice_get (instrs_of p) k ≡ Some placed) × AtPlace u host chain p k placed point
    placed_at standing k point is_point =
        at_place laws.code laws.each laws.one u is host e is_flat has_frames expands bars plain standing k point is_point

    -- where a callee returns, its stack has its result alone
    callee_alone : {chain : List MethodAt} {p : Standing} → IsStanding host e chain p → (callee : MethodAt) (more : List MethodAt)
        → chain ≡ callee ∷ more
        → Callee u p.setting.coded
    callee_alone host_stands callee more none = absurd (cc none)
    callee_alone (callee_stands k placed frame g inner standing here) callee more some = (callee_of_call k placed frame g inner standing here).0

  -- ---- parts

  facts : FlatFacts u
  facts = record {
    own_code = own_code u is;
    host_code = λ at flat is_flat e. host_code u is at flat is_flat e;
    flat_code_at = λ at flat is_flat e. flat_code_at u is at flat is_flat e;
    catches = λ at flat chain p k placed is_flat e standing there.
        catches_there u is at flat is_flat e laws.each laws.one chain p k placed standing there;
    host_catches = λ at flat k placed point is_flat e there is_point.
        host_catches_at laws.code laws.each laws.one u is e.host e.expansion (host_flat u at flat is_flat e) (host_frames u at flat is_flat e)
        (host_expands u at flat is_flat e)
        (bars e.host e.expansion (host_flat u at flat is_flat e) (host_frames u at flat is_flat e) (host_expands u at flat is_flat e))
        (plain e.host e.expansion (host_flat u at flat is_flat e) (host_frames u at flat is_flat e) (host_expands u at flat is_flat e))
        k point placed is_point there;
    callee = λ at flat chain p k placed frame g inner is_flat e standing here.
        plain e.host e.expansion (host_flat u at flat is_flat e) (host_frames u at flat is_flat e) (host_expands u at flat is_flat e)
        chain p k placed frame g inner standing here;
  }

  own : OwnParts u
  own = record {
    points = λ names f g point in_own is_point.
        let both = own_point_in_both u is f.at (own_stores u is laws.bars f.at) in_own.no_flat f.place point is_point in
        (ap (λ (m : MethodAt). point_at Q m g.place) in_own.at ∙ ap (point_at Q f.at) in_own.place ∙ both.0, λ work. same_op both.1);
  }

  parts : Parts u
  parts = record {
    basis = record {
      same = same_programs is;
      alike = begin_alike is;
      compares = compares u;
      settles = λ names w others typed top. settles facts is names w others typed top;
      steps_typed = λ w typed. laws.calls.steps P u.typings w typed;
    };
    facts = facts;
    own = own;
    library = record { acts_typed = λ w action typed turn. laws.acts P u.typings w action typed turn };
    place = λ names f g waiting point in_flat is_point.
        placed_at in_flat.expanded.host in_flat.expanded.expansion (host_flat u g.at in_flat.flat in_flat.is_flat in_flat.expanded)
        (host_frames u g.at in_flat.flat in_flat.is_flat in_flat.expanded) (host_expands u g.at in_flat.flat in_flat.is_flat in_flat.expanded)
        (standing_of in_flat.inside) f.place point (ap (λ (m : MethodAt). point_at P m f.place) (sym in_flat.in_place.at) ∙ is_point);
    call = λ names w f g waiting rest point placed h in_flat typed frames is_point there replaced has_frames.
        replaced_call u is laws.calls read w f rest point in_flat.p.setting.coded h placed in_flat.expanded.host.at in_flat.chain typed frames
        in_flat.in_place.at
        (stands in_flat.expanded.host in_flat.expanded.expansion (host_flat u g.at in_flat.flat in_flat.is_flat in_flat.expanded)
        (host_frames u g.at in_flat.flat in_flat.is_flat in_flat.expanded) (host_expands u g.at in_flat.flat in_flat.is_flat in_flat.expanded)
        (standing_of in_flat.inside)).has has_frames there replaced is_point;
    inner = λ names f g waiting placed frame h expansion in_flat here.
        stands in_flat.expanded.host in_flat.expanded.expansion (host_flat u g.at in_flat.flat in_flat.is_flat in_flat.expanded)
        (host_frames u g.at in_flat.flat in_flat.is_flat in_flat.expanded) (host_expands u g.at in_flat.flat in_flat.is_flat in_flat.expanded)
        (callee_stands f.place placed frame h expansion (standing_of in_flat.inside) here);
    few = λ h unit has_frames. arguments_room u.classes h.at h.scope unit read has_frames.is_scope;
    alone = λ names w f g waiting rest point placed kind callee more in_flat typed frames is_point there chain instr op.
        alone names w f g waiting rest point placed kind callee more in_flat typed frames is_point there chain instr op;
    starts = laws.starts P u.typings is.program;
  } where
    alone : (names : Names) (w : World) (f g : MethodState) (waiting : List MethodState) (rest : List RunFrame) (point : Point)
        (placed : Placed) (kind : Option Kind) (callee : MethodAt) (more : List MethodAt) (in_flat : InFlat u names f waiting g)
        → TypedWorld P u.typings w
        → w.frames ≡ Method f ∷ rest
        → point_at P f.at f.place ≡ Some point
        → slice_get (instrs_of in_flat.p) f.place ≡ Some placed
        → in_flat.chain ≡ callee ∷ more
        → placed.instr ≡ Return kind
        → point.op ≡ return_op (own_result in_flat.p) kind
        → ReturnsAlone (own_result in_flat.p) f.stack
    alone names w f g waiting rest point placed kind callee more in_flat typed frames is_point there chain instr op =
        returns_alone (own_result in_flat.p) kind does.stands.fits.frame f.stack means leaves count where
          does : Does P u.typings w.memory.heap f
          does = does_of u w f rest typed frames

          here : Stands u.classes u.typed in_flat.expanded.host in_flat.expanded.expansion in_flat.chain in_flat.p
          here = stands in_flat.expanded.host in_flat.expanded.expansion (host_flat u g.at in_flat.flat in_flat.is_flat in_flat.expanded)
              (host_frames u g.at in_flat.flat in_flat.is_flat in_flat.expanded) (host_expands u g.at in_flat.flat in_flat.is_flat in_flat.expanded)
              (standing_of in_flat.inside)

          its_callee : Callee u in_flat.p.setting.coded
          its_callee = callee_alone in_flat.expanded.host in_flat.expanded.expansion (host_flat u g.at in_flat.flat in_flat.is_flat in_flat.expanded)
              (host_frames u g.at in_flat.flat in_flat.is_flat in_flat.expanded) (host_expands u g.at in_flat.flat in_flat.is_flat in_flat.expanded)
              (standing_of in_flat.inside) callee more chain

          means : return_op (own_result in_flat.p) kind ≢ meaningless
          means none =
              let same = ap (λ (p : Point). p.op) (same_Some does.stands.point point (sym does.stands.is_point ∙ is_point)) in
              let never = subst (IsLinkedOp P (u.typings f.at).scope does.stands.fits.place) (same ∙ op ∙ none) does.stands.fits.linked in
              never

          frames_are : (u.typings f.at).frames ≡ in_flat.p.setting.coded.frames
          frames_are = is.typings f.at in_flat.p.setting.coded.frames
              (ap (typed_frames_at u.typed) in_flat.in_place.at ∙ here.has.are_frames)

          leaves : LeavesResult (Return kind) does.stands.fits.frame
          leaves = subst (λ (i : Instr). LeavesResult i does.stands.fits.frame) instr
              (its_callee.may.returns f.place placed does.stands.fits.frame there
              (ap (λ (all : List Frame). slice_get all f.place) (sym frames_are) ∙ does.stands.fits.is_frame))

          count : length f.stack ≡ length does.stands.fits.frame.stack
          count = sym (length-reverse f.stack) ∙ conform_count does.stack

  -- A program whose hosts run expanded flat codes runs equally.
  pub expanded_runs_equally : EqualRuns P Q
  expanded_runs_equally = runs_equally u parts
