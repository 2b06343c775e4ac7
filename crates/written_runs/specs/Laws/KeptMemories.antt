-- What a turn of a run leaves as it was: objects keep their references and their shapes, and classes stay begun.
use Rattle.std.proofs.Common.{◌≡◌, ◌==◌, ◌||◌, ℕ, zero, suc, Bool, true, false, List, [], ◌∷◌, slice_get, Some, refl, ap, subst, ◌∙◌}
use Rattle.std.specs.List.{list_any}
use Rattle.std.proofs.lemmas.List.Folds.{list_any-append}
use Rattle.std.proofs.lemmas.Option.{none-some, same_Some}
use Rattle.machine_laws.specs.Growth.{KeepShapes, MemoryGrows, WorldGrows}
use Rattle.machine_values.specs.declared.action.Action.{Action}
use Rattle.machine_values.specs.declared.object.Object.{Object}
use Rattle.member_link.specs.Machine.Acting.{act, is_fault}
use Rattle.member_link.specs.Machine.Programs.{Program}
use Rattle.member_link.specs.Machine.Runs.{Run, behind_action, turn, turn_by}
use Rattle.member_link.specs.Machine.Stepping.{is_library_turn, step}
use Rattle.member_link.specs.Machine.Worlds.{Memory, World, going}
use Rattle.same_runs.specs.Laws.Turns.{turn_steps}
use Rattle.written_runs.specs.Laws.StillThere.{MemoryStays}

-- what the law of turns says
abbrev pub TurnsGrow : Type 0
TurnsGrow = (P : Program) (r : Run) → WorldGrows r.world (turn P r).world

shapes_kept : (before after : List Object) → KeepShapes before after → (reference : ℕ) (object : Object) → slice_get before reference ≡ Some object
    → (also : Object) × (slice_get after reference ≡ Some also) × (also.shape ≡ object.shape)
shapes_kept [] after keep reference object is = absurd (none-some object is)
shapes_kept (one ∷ ones) [] keep reference object is = absurd keep
shapes_kept (one ∷ ones) (other ∷ others) keep zero object is =
    (other, refl, keep.0 ∙ ap (λ (o : Object). o.shape) (same_Some one object is))
shapes_kept (one ∷ ones) (other ∷ others) keep (suc reference) object is = shapes_kept ones others keep.1 reference object is

memory_kept : {before after : Memory} → MemoryGrows before after → MemoryStays before after
memory_kept {before = before} {after = after} grows = record {
  shapes = record { stays = shapes_kept before.heap.objects after.heap.objects grows.objects };
  begun = λ class is.
      ap (list_any (λ (other : ℕ). other == class)) grows.begun.all
      ∙ list_any-append (λ (other : ℕ). other == class) before.begun grows.begun.more
      ∙ ap (λ (b : Bool). b || list_any (λ (other : ℕ). other == class) grows.begun.more) is;
}

-- a step, where it is not the library's turn
pub step_kept : TurnsGrow → (P : Program) (w : World)
    → w.halt ≡ going
    → is_library_turn w.frames ≡ false
    → MemoryStays w.memory (step P w).memory
step_kept grows P w goes no_turn =
    subst (λ (r : Run). MemoryStays w.memory r.world.memory) (turn_steps P run goes no_turn) (memory_kept (grows P run).memory) where
      run : Run
      run = record { world = w; actions = []; used = 0 }

-- an action of the library
pub act_kept : TurnsGrow → (P : Program) (w : World) (action : Action)
    → w.halt ≡ going
    → is_library_turn w.frames ≡ true
    → MemoryStays w.memory (act P action w).memory
act_kept grows P w action goes turns =
    subst (MemoryStays w.memory) (ap (λ (r : Run). r.world.memory) turned ∙ by (is_fault (act P action w).halt) refl) (memory_kept (grows P run).memory) where
      run : Run
      run = record { world = w; actions = action ∷ []; used = 0 }

      turned : turn P run ≡ behind_action run [] (act P action w)
      turned = ap (turn_by P run) goes ∙ rw (turns) refl

      by : (b : Bool) → is_fault (act P action w).halt ≡ b → (behind_action run [] (act P action w)).world.memory ≡ (act P action w).memory
      by true e = rw (e) refl
      by false e = rw (e) refl
