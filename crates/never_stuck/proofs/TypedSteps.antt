use Rattle.std.specs.Prelude.{◌≡◌, ◌≢◌, true, Result, Ok, Err, IfOk, OnOk}
use Rattle.std.proofs.Common.{ap, sym, ◌∙◌, subst}
use Rattle.class_tree.specs.Headers.{Classes}
use Rattle.machine_run.specs.Outcomes.{ended, halt_of, halt_behind}
use Rattle.member_link.specs.TreePrograms.{IsProgram}
use Rattle.machine_step.specs.declared.world.Acted.{Acted}
use Rattle.machine_step.specs.declared.world.Acted.TheVariants as acted
use Rattle.machine_step.specs.declared.world.Outcome.{Outcome}
use Rattle.machine_step.specs.declared.world.Outcome.TheVariants as outcomes
use Rattle.machine_values.specs.declared.action.Action.{Action}
use Rattle.member_link.specs.Machine.Acting.{act}
use Rattle.member_link.specs.Machine.Programs.{Program}
use Rattle.member_link.specs.Machine.Stepping.{is_library_turn, step}
use Rattle.member_link.specs.Machine.Worlds.{Halt, World, going, stuck}
use Rattle.typed_runs.specs.TypedPrograms.{Typings}
use Rattle.typed_runs.specs.TypedWorlds.{TypedWorld, StaysTyped}

module _ (P : Program) (T : Typings) (before now after : World) (stays : StaysTyped P T before after) where
  -- how a run goes on is not part of what is typed
  typed_behind : (h : Halt) → ended h now ≡ after → TypedWorld P T now
  typed_behind h e =
      let t : TypedWorld P T (ended h now) = subst (TypedWorld P T) (sym e) stays.typed in
      record { program = t.program; memory = t.memory; frames = t.frames; known = t.known }

  not_stuck_behind : before.halt ≡ going → (h : Halt) → ended h now ≡ after → h ≢ stuck
  not_stuck_behind goes h e = λ is. stays.not_stuck (λ no. let x : going ≡ stuck = sym goes ∙ no in absurd cc)
      (sym (ap (λ (w : World). w.halt) e) ∙ is)

  no_stuck_outcome : before.halt ≡ going → (outcome : Outcome) → ended (halt_of outcome) now ≡ after → outcome ≢ outcomes.Stuck
  no_stuck_outcome goes outcome e = λ is. not_stuck_behind goes (halt_of outcome) e (ap halt_of is)

  no_stuck_acted : before.halt ≡ going → (done : Acted) → ended (halt_behind done) now ≡ after → done ≢ acted.Stuck
  no_stuck_acted goes done e = λ is. not_stuck_behind goes (halt_behind done) e (ap halt_behind is)

-- ---- behind a step

module _ {E : Type 0} (classes : Classes) (before now : World) (goes : before.halt ≡ going)
    (stays : (P : Program) (T : Typings) (w : World) → TypedWorld P T w → StaysTyped P T w (step P w)) where
  pub step_typed : (r : Result Outcome E)
      → IfOk r (λ outcome. (P : Program) → IsProgram classes P → ended (halt_of outcome) now ≡ step P before)
      → OnOk r ((P : Program) (T : Typings) → IsProgram classes P → TypedWorld P T before → TypedWorld P T now)
  step_typed (Ok outcome) is = λ P T program typed. typed_behind P T before now (step P before) (stays P T before typed) (halt_of outcome)
      (is P program)
  step_typed (Err e) is = tt

  pub step_not_stuck : (r : Result Outcome E)
      → IfOk r (λ outcome. (P : Program) → IsProgram classes P → ended (halt_of outcome) now ≡ step P before)
      → IfOk r (λ outcome. (P : Program) (T : Typings) → IsProgram classes P → TypedWorld P T before → outcome ≢ outcomes.Stuck)
  step_not_stuck (Ok outcome) is = λ P T program typed. no_stuck_outcome P T before now (step P before) (stays P T before typed) goes outcome
      (is P program)
  step_not_stuck (Err e) is = tt

-- ---- behind an action

module _ {E : Type 0} (classes : Classes) (before now : World) (action : Action) (goes : before.halt ≡ going)
    (turn : is_library_turn before.frames ≡ true)
    (stays : (P : Program) (T : Typings) (w : World) (a : Action) → TypedWorld P T w → is_library_turn w.frames ≡ true
    → StaysTyped P T w (act P a w)) where
  pub act_typed : (r : Result Acted E)
      → IfOk r (λ done. (P : Program) → IsProgram classes P → ended (halt_behind done) now ≡ act P action before)
      → OnOk r ((P : Program) (T : Typings) → IsProgram classes P → TypedWorld P T before → TypedWorld P T now)
  act_typed (Ok done) is = λ P T program typed. typed_behind P T before now (act P action before)
      (stays P T before action typed turn) (halt_behind done) (is P program)
  act_typed (Err e) is = tt

  pub act_not_stuck : (r : Result Acted E)
      → IfOk r (λ done. (P : Program) → IsProgram classes P → ended (halt_behind done) now ≡ act P action before)
      → IfOk r (λ done. (P : Program) (T : Typings) → IsProgram classes P → TypedWorld P T before
      → done ≢ acted.Stuck)
  act_not_stuck (Ok done) is = λ P T program typed. no_stuck_acted P T before now (act P action before)
      (stays P T before action typed turn) goes done (is P program)
  act_not_stuck (Err e) is = tt
