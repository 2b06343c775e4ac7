use Rattle.std.specs.Prelude.{◌≡◌, refl, Bool, true, false, List, ◌∷◌, ℕ, Some, None, Option, if◌then◌else◌}
use Rattle.std.proofs.Common.{ap, sym, ◌∙◌, subst}
use Rattle.class_model.specs.Frames.{filled}
use Rattle.class_model.specs.declared.class_file.MethodAt.{MethodAt}
use Rattle.class_model.specs.declared.frame.VType.{VType}
use Rattle.class_tree.specs.Headers.{Name}
use Rattle.machine_values.specs.Values.{units_of_values}
use Rattle.machine_values.specs.declared.frame.RunFrame.{RunFrame}
use Rattle.machine_values.specs.declared.frame.RunFrame.TheVariants as frames
use Rattle.machine_values.specs.declared.value.Value.{Value}
use Rattle.member_link.specs.Machine.Acting.{beginning_of_number, beginning_if}
use Rattle.member_link.specs.Machine.Beginnings.{begun_on, frame_with}
use Rattle.member_link.specs.Machine.Performing.{is_initialiser, locking_of, locked, called}
use Rattle.member_link.specs.Machine.Programs.{Program, Code, RunMethod, run_method, code_run, folder_number, name_of_class}
use Rattle.member_link.specs.Machine.Worlds.{World, is_begun}
use Rattle.typed_runs.proofs.BeginningSteps.{begun_on_stays, class_there}
use Rattle.typed_runs.proofs.Entering.{NoTop, enters}
use Rattle.typed_runs.proofs.Assigned.{all_in_heap}
use Rattle.typed_runs.proofs.Here.{stays}
use Rattle.typed_runs.proofs.Kept.{all_kept, frames_kept}
use Rattle.typed_runs.proofs.Locking.{LockedTyped, locked_typed}
use Rattle.typed_runs.specs.Conforming.{AllConform}
use Rattle.typed_runs.specs.TypedFrames.{called_method, above_method, above_of, FramesConform, upon}
use Rattle.typed_runs.specs.TypedPrograms.{Typings, entry}
use Rattle.typed_runs.specs.TypedWorlds.{TypedWorld, StaysTyped}

pub stays_same : (P : Program) (T : Typings) (w : World) → TypedWorld P T w → StaysTyped P T w w
stays_same P T w typed = record { typed = typed; not_stuck = λ no. no }

pub stays_through : {P : Program} {T : Typings} {u v w : World} → StaysTyped P T u v → StaysTyped P T v w → StaysTyped P T u w
stays_through one other = record { typed = other.typed; not_stuck = λ no. other.not_stuck (one.not_stuck no) }

-- A method with code is called on top of frames of which the first one awaits it.
pub called_stays : (P : Program) (T : Typings) (w : World) → TypedWorld P T w → (at : MethodAt) (method : RunMethod) (code : Code)
    → run_method P at ≡ Some method → code_run method ≡ Some code
    → is_initialiser method ≡ false → (ts : List VType) (vs : List Value) → (entry P at method.member code).locals ≡ filled code.locals ts
    → NoTop ts → AllConform P (T at).scope w.memory.heap ts vs
    → (rest : List RunFrame) → FramesConform P T w.memory.heap (called_method method.member) rest
    → StaysTyped P T w (called P w at vs rest)
called_stays P T w typed at method code run is plain ts vs begins apart all rest below =
    let l : LockedTyped P w.memory (locked P w.memory at vs) = locked_typed P T typed.program w.memory (name_of_class P at.class)
    (locking_of (run_method P at)) vs typed.memory (all_in_heap all) in
    let held : Option ℕ = (locked P w.memory at vs).held in
    let above : above_of P (frames.Method (frame_with P at (units_of_values vs) held)) ≡ called_method method.member = ap above_method run
    ∙ (rw plain refl) in
    let does = enters P T (locked P w.memory at vs).memory typed.program at method code run is held l.held ts vs begins apart
    (all_kept l.keep all) in
    stays P T w (locked P w.memory at vs).memory (frames.Method (frame_with P at (units_of_values vs) held) ∷ rest) typed l.keep l.typed
    (upon does (subst (λ a. FramesConform P T (locked P w.memory at vs).memory.heap a rest) (sym above) (frames_kept l.keep below)))

-- the class of a method may be begun on top
pub beginning_if_stays : (P : Program) (T : Typings) (w : World) (class : Name) → TypedWorld P T w
    → StaysTyped P T w (beginning_if P class w)
beginning_if_stays P T w class typed = by (folder_number P class) refl where
  by_begun : (n : ℕ) (b : Bool) → folder_number P class ≡ Some n → StaysTyped P T w (if b then w else begun_on P n w w.frames)
  by_begun n true e = stays_same P T w typed
  by_begun n false e = let c = class_there P class n e in begun_on_stays P T w n c.0 w.frames typed c.1 typed.frames

  by : (n : Option ℕ) → folder_number P class ≡ n → StaysTyped P T w (beginning_of_number P w n)
  by None e = stays_same P T w typed
  by (Some n) e = by_begun n (is_begun w.memory n) e
