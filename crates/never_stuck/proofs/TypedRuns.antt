use Rattle.std.specs.Prelude.{◌≡◌, ◌≢◌, ◌<◌, refl, ℕ, true, List, [], ◌∷◌, length, Result, Ok, Err, IfOk}
use Rattle.std.proofs.Common.{arith, ap, sym, ◌∙◌, subst}
use Rattle.class_model.specs.declared.class_file.ClassFile.{ClassFile}
use Rattle.class_tree.specs.Headers.{Classes}
use Rattle.member_link.specs.TreePrograms.{IsProgram}
use Rattle.machine_values.specs.declared.action.Action.{Action}
use Rattle.machine_values.specs.declared.event.End.TheVariants as ends
use Rattle.machine_values.specs.declared.event.Shown.{Shown}
use Rattle.member_link.specs.Machine.Acting.{act}
use Rattle.member_link.specs.Machine.Programs.{Program}
use Rattle.member_link.specs.Machine.Runs.{shown_after}
use Rattle.member_link.specs.Machine.Stepping.{is_library_turn, step}
use Rattle.member_link.specs.Machine.Worlds.{World, start, stuck}
use Rattle.never_stuck.proofs.LibraryAlone.{act_alone, step_alone}
use Rattle.never_stuck.proofs.Turns.{run_not_stuck}
use Rattle.never_stuck.specs.PlainFolders.{LibraryAlone}
use Rattle.typed_runs.specs.TypedPrograms.{Typings, IsTypedProgram}
use Rattle.typed_runs.specs.TypedWorlds.{TypedWorld, StaysTyped}

-- what the laws of typed worlds say
pub record WorldLaws : Type 0 where
  pub starts : (P : Program) (T : Typings) → IsTypedProgram P T → TypedWorld P T start
  pub steps : (P : Program) (T : Typings) (w : World) → TypedWorld P T w → StaysTyped P T w (step P w)
  pub acts : (P : Program) (T : Typings) (w : World) (action : Action) → TypedWorld P T w → is_library_turn w.frames ≡ true
      → StaysTyped P T w (act P action w)

-- the worlds of a run of a typed program
pub record GoesTyped (P : Program) (T : Typings) (w : World) : Type 0 where
  pub typed : TypedWorld P T w
  pub not_stuck : w.halt ≢ stuck

goes_on : (P : Program) (T : Typings) (before after : World) → GoesTyped P T before → StaysTyped P T before after → GoesTyped P T after
goes_on P T before after is stays = record { typed = stays.typed; not_stuck = stays.not_stuck is.not_stuck }

typed_not_stuck : WorldLaws → (P : Program) (T : Typings) → IsTypedProgram P T → (actions : List Action) (count : ℕ)
    → (shown_after P actions count).end ≢ ends.Stuck
typed_not_stuck laws P T typed actions count =
    run_not_stuck P (GoesTyped P T) (λ w is. goes_on P T w (step P w) is (laws.steps P T w is.typed))
    (λ w action is turn. goes_on P T w (act P action w) is (laws.acts P T w action is.typed turn)) (λ w is. is.not_stuck)
    (record { typed = laws.starts P T typed; not_stuck = λ e. cc }) actions count

alone_not_stuck : (P : Program) → P.classes ≡ [] → (actions : List Action) (count : ℕ)
    → (shown_after P actions count).end ≢ ends.Stuck
alone_not_stuck P none actions count =
    run_not_stuck P LibraryAlone (λ w alone. subst LibraryAlone (sym (step_alone P none w alone)) alone)
    (λ w action alone turn. act_alone P none w action alone) (λ w alone. alone.not_stuck)
    (record { frames = refl; not_stuck = λ e. cc }) actions count

-- in a folder with classes the program is typed, and in one without no frame but the library's stands
pub verified_not_stuck : WorldLaws → (classes : Classes) (P : Program) → IsProgram classes P
    → (0 < length classes.folder → (T : Typings) × IsTypedProgram P T) → (actions : List Action) (count : ℕ)
    → (shown_after P actions count).end ≢ ends.Stuck
verified_not_stuck laws classes P is typed actions count = by classes.folder refl where
  by : (folder : List ClassFile) → classes.folder ≡ folder → (shown_after P actions count).end ≢ ends.Stuck
  by [] e = alone_not_stuck P (ap (λ (p : Program). p.classes) is.same ∙ (rw e refl)) actions count
  by (class ∷ folder) e =
      let some : 0 < length classes.folder = rw e (omega arith) in
      let t = typed some in
      typed_not_stuck laws P t.0 t.1 actions count

pub shown_not_stuck : {E : Type 0} (classes : Classes) (actions : List Action) (count : ℕ)
    → ((P : Program) → IsProgram classes P → (shown_after P actions count).end ≢ ends.Stuck)
    → (r : Result Shown E)
    → IfOk r (λ shown. (P : Program) → IsProgram classes P → shown ≡ shown_after P actions count)
    → IfOk r (λ shown. (P : Program) → IsProgram classes P → shown.end ≢ ends.Stuck)
shown_not_stuck classes actions count never (Ok shown) is = λ P program.
    subst (λ (s : Shown). s.end ≢ ends.Stuck) (sym (is P program)) (never P program)
shown_not_stuck classes actions count never (Err e) is = tt
