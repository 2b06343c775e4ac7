-- The records of laws that the parts of the theorem go on, from the setup and from what other crates prove.
use Rattle.std.proofs.Common.{List, Some, slice_get, true, ℕ, ◌∷◌, ◌≡◌}
use Rattle.class_tree.specs.Headers.{headers_of}
use Rattle.class_tree.specs.Hierarchy.{IsHierarchy}
use Rattle.flow_code.specs.ReadTypes.{read_frame}
use Rattle.flow_code.specs.declared.point.Point.{Point}
use Rattle.machine_values.specs.Frames.{MethodState}
use Rattle.machine_values.specs.declared.action.Action.{Action}
use Rattle.machine_values.specs.declared.frame.RunFrame.TheVariants.{Method}
use Rattle.machine_values.specs.declared.frame.RunFrame.{RunFrame}
use Rattle.member_link.specs.Machine.Acting.{act}
use Rattle.member_link.specs.Machine.Programs.{Program}
use Rattle.member_link.specs.Machine.Runs.{Run, begins_with, turns}
use Rattle.member_link.specs.Machine.SameRuns.{SameRuns}
use Rattle.member_link.specs.Machine.Stepping.{is_library_turn, step}
use Rattle.member_link.specs.Machine.Worlds.{World, start}
use Rattle.plan_flow.specs.Written.WrittenPrograms.{WrittenMethod}
use Rattle.same_runs.specs.Laws.ClassInitialisers.{initialiser_named}
use Rattle.same_runs.specs.Laws.FoundMembers.{FieldLaws}
use Rattle.typed_runs.specs.FolderTypings.{HasFlatTypings}
use Rattle.typed_runs.specs.TypedFrames.{ConformsTo}
use Rattle.typed_runs.specs.TypedPrograms.{IsTypedProgram, Typings}
use Rattle.typed_runs.specs.TypedWorlds.{StaysTyped, TypedWorld}
use Rattle.written_runs.specs.Inner.MadeObjects.{MakesObjects}
use Rattle.written_runs.specs.Inner.PlannedFrames.{scope_in}
use Rattle.written_runs.specs.Inner.Setup.{IsSetup, Setup, first, second}
use Rattle.written_runs.specs.Inner.Together.{Related}
use Rattle.written_runs.specs.Laws.AddedConstructors.{AddsToCandidates, first_second_same}
use Rattle.written_runs.specs.Laws.AloneTurns.{alone_turn}
use Rattle.written_runs.specs.Laws.BeginningTurns.{beginning_turn}
use Rattle.written_runs.specs.Laws.BothTurns.{Basis}
use Rattle.written_runs.specs.Laws.Carried.Knowing.{CarriedFacts, CarriedLaws}
use Rattle.written_runs.specs.Laws.Carried.WaitingPlanned.{returns_planned, unwinds_planned}
use Rattle.written_runs.specs.Laws.Carried.Whole.{planned_parts}
use Rattle.written_runs.specs.Laws.ConstructorTexts.{ReadsParameters}
use Rattle.written_runs.specs.Laws.FirstProgram.{blanks_in_first, of_library, site_class, slots_in_first}
use Rattle.written_runs.specs.Laws.FittingSetup.{rows_fit}
use Rattle.written_runs.specs.Laws.FlatOperations.{flat_in_both}
use Rattle.written_runs.specs.Laws.FreshFrames.{fresh_frames_stand}
use Rattle.written_runs.specs.Laws.KeptMemories.{TurnsGrow, act_kept, step_kept}
use Rattle.written_runs.specs.Laws.LibraryFrames.{LibraryLaws}
use Rattle.written_runs.specs.Laws.LibraryTurns.{library_turn}
use Rattle.written_runs.specs.Laws.NotFinal.{not_final}
use Rattle.written_runs.specs.Laws.ObjectInits.{object_inits}
use Rattle.written_runs.specs.Laws.OverTurns.{over_keeps}
use Rattle.written_runs.specs.Laws.OwnCodes.{own_codes}
use Rattle.written_runs.specs.Laws.OwnFrames.{FrameLaws, ReturnsToPlanned, UnwindsPlanned}
use Rattle.written_runs.specs.Laws.OwnOperations.{own_operations}
use Rattle.written_runs.specs.Laws.OwnTurns.{TurnLaws, own_turn}
use Rattle.written_runs.specs.Laws.PlannedTurns.{PlannedParts, planned_turn}
use Rattle.written_runs.specs.Laws.SameBoth.{begin_alike}
use Rattle.written_runs.specs.Laws.SameForms.{same_forms}
use Rattle.written_runs.specs.Laws.SettleFromSetup.{settle_laws}
use Rattle.written_runs.specs.Laws.Settling.{SettleLaws}
use Rattle.written_runs.specs.Laws.Simulation.{Parts, runs_the_same, stays_related}
use Rattle.written_runs.specs.Laws.StaysTop.{stays_top_by}
use Rattle.written_runs.specs.Laws.Templates.Known.{TemplateLaws}
use Rattle.written_runs.specs.Laws.Templates.Whole.{template_turns}
use Rattle.written_runs.specs.Laws.TypedEntries.{typed_frame}
use Rattle.written_runs.specs.Laws.WaitingFrames.{waits_alike}
use Rattle.written_runs.specs.Laws.WrittenCodes.{flat_code_at}

-- ---- what the proof goes on

-- Laws of other crates, as these prove them: of member_link on fields, of typed_runs on steps, actions and starts, of machine_laws on turns, and
-- of class_model on descriptors.
pub record RunLaws : Type 0 where
  pub fields : FieldLaws
  pub steps : (P : Program) (T : Typings) (w : World) → TypedWorld P T w → StaysTyped P T w (step P w)
  pub acts : (P : Program) (T : Typings) (w : World) (action : Action)
      → TypedWorld P T w
      → is_library_turn w.frames ≡ true
      → StaysTyped P T w (act P action w)
  pub starts : (P : Program) (T : Typings) → IsTypedProgram P T → TypedWorld P T start
  pub grows : TurnsGrow
  pub reads : ReadsParameters

-- The setup, of a folder that is a hierarchy; and field constructors are added only to classes of candidates' chains.
pub record Grounds (u : Setup) : Type 0 where
  pub setup : IsSetup u
  pub hierarchy : IsHierarchy (headers_of u.classes)
  pub adds : AddsToCandidates u
  -- the frames of flat codes are those of their typed points
  pub typings : HasFlatTypings u.flats u.typings

module _ {u : Setup} (grounds : Grounds u) (laws : RunLaws) where
  -- ---- the records

  settle : SettleLaws u
  settle = settle_laws u grounds.setup grounds.hierarchy grounds.adds laws.reads grounds.typings

  pub basis : Basis u
  basis = record {
    settle = settle;
    same = first_second_same u grounds.setup grounds.hierarchy grounds.adds;
    alike = begin_alike grounds.setup grounds.hierarchy grounds.adds;
    steps_typed = λ w typed. laws.steps (first u) u.typings w typed;
    codes = own_codes grounds.setup;
    initialisers = λ class at method is there. initialiser_named (first u) class at method is there;
    fresh_stands = λ virtuals known names w others typed top. fresh_frames_stand u grounds.setup virtuals known names w others typed top;
  }

  pub frame_laws : UnwindsPlanned u → ReturnsToPlanned u → FrameLaws u
  frame_laws unwinds returns = record {
    same = first_second_same u grounds.setup grounds.hierarchy grounds.adds;
    codes = own_codes grounds.setup;
    unwinds = unwinds;
    returns = returns;
  }

  pub turn_laws : FrameLaws u → TurnLaws u
  turn_laws frames = record {
    frames = frames;
    settle = settle;
    alike = begin_alike grounds.setup grounds.hierarchy grounds.adds;
    steps_typed = λ w typed. laws.steps (first u) u.typings w typed;
    keeps = λ w typed goes no_turn. step_kept laws.grows (first u) w goes no_turn;
    fresh_stands = λ virtuals known names w others typed top. fresh_frames_stand u grounds.setup virtuals known names w others typed top;
    own_ops = λ at place point none there work. own_operations grounds.setup laws.fields grounds.hierarchy at place point none there work;
  }

  pub library_laws : TurnLaws u → LibraryLaws u
  library_laws turns = record {
    turns = turns;
    acts_typed = λ w action typed turn. laws.acts (first u) u.typings w action typed turn;
    keeps = λ w action typed goes turn. act_kept laws.grows (first u) w action goes turn;
    pends = waits_alike u grounds.setup;
  }

  -- the values of the topmost frame conform to the types of its point
  conforms : (world : World) (f : MethodState) (rest : List RunFrame) (w : WrittenMethod) (point : Point)
      → TypedWorld (first u) u.typings world
      → world.frames ≡ Method f ∷ rest
      → u.written f.at ≡ Some w
      → slice_get w.flat.points f.place ≡ Some point
      → ConformsTo (first u) u.typings world.memory.heap (read_frame w.flat point.typed) f
  conforms world f rest w point typed stands written there =
      let found = typed_frame u grounds.setup grounds.typings world f rest w point typed stands written there in
      record { locals = found.locals; stack = found.stack }

  -- ---- planned frames

  carried_facts : CarriedFacts u
  carried_facts = record {
    settle = settle;
    flat_code = λ at w host written there. flat_code_at u grounds.setup at w host written there;
    rows_fit = rows_fit u grounds.setup;
  }

  turns_known : TurnLaws u
  turns_known = turn_laws (frame_laws (unwinds_planned u carried_facts) (returns_planned u carried_facts))

  carried_laws : CarriedLaws u
  carried_laws = record {
    turns = turns_known;
    flat_code = λ at w host written there. flat_code_at u grounds.setup at w host written there;
    conforms = conforms;
    rows_fit = rows_fit u grounds.setup;
    in_both = λ at w host place point route written is_host reached carried_so work.
        flat_in_both grounds.setup laws.fields grounds.hierarchy at w host place point route written is_host reached carried_so;
    object_inits = object_inits u grounds.setup;
  }

  template_laws : TemplateLaws u
  template_laws = record {
    settle = settle;
    flat_code = λ at w host written there. flat_code_at u grounds.setup at w host written there;
    steps_typed = λ w typed. laws.steps (first u) u.typings w typed;
    conforms = conforms;
    stays_top = λ at w place point number edge unit type written there is_edge top stays is.
        stays_top_by (scope_in u w) place point number edge unit type (rows_fit u grounds.setup at w written) there is_edge top stays is;
    slots = slots_in_first grounds.setup;
    of_library = of_library grounds.setup;
    site_class = λ at w number site written there. site_class grounds.setup grounds.hierarchy at w number site written there;
    same_forms = same_forms u grounds.setup grounds.typings;
    not_final = not_final u grounds.setup grounds.hierarchy laws.fields grounds.typings;
    object_inits = λ at w place point class opcode index count r written there is names init.
        (object_inits u grounds.setup at w place point class opcode index count r written there is names init).1;
    blanks = blanks_in_first grounds.setup;
  }

  planned : PlannedParts u
  planned =
      planned_parts u carried_laws (λ measure one other a class instr instrs is told.
      template_turns u template_laws measure one other a class instr instrs is told)

  -- ---- the theorem

  parts : Parts u
  parts = record {
    alone = λ measure one other t class now is. alone_turn u basis measure one other t class now is;
    library = λ measure one other t none made made_also ones others is is_also held below.
        library_turn u (library_laws turns_known) measure one other t none made made_also ones others is is_also held below;
    beginning = λ measure one other t none class ones others is is_also below.
        beginning_turn u basis measure one other t none class ones others is is_also below;
    own = λ measure one other t none f g ones others is is_also in_own below.
        own_turn u turns_known measure one other t none f g ones others is is_also in_own below;
    planned = λ measure one other t none f g ones others is is_also in_planned settled below low.
        planned_turn u planned measure one other (record {
          t = t;
          none_now = none;
          f = f;
          g = g;
          ones = ones;
          others = others;
          stands = is;
          stands_also = is_also;
          in_planned = in_planned;
          settled = settled;
          below = below;
          low = low;
        });
    over = λ measure one other over. over_keeps u measure one other over;
    starts = laws.starts (first u) u.typings grounds.setup.program;
  }

  -- The program with written codes runs the same as the one with flat codes.
  pub written_codes_run_the_same : SameRuns (first u) (second u)
  written_codes_run_the_same = runs_the_same u parts

  -- In each run of the first the relation holds of some run of the second.
  pub written_codes_stay_related : (actions : List Action) (count : ℕ)
      → (measure : ℕ) × (other : Run) × Related u measure (turns (first u) count (begins_with actions)) other
  written_codes_stay_related = stays_related u parts

  pub makes_what_was_virtual : MakesObjects u
  makes_what_was_virtual = settle.making
