use Rattle.std.specs.Prelude.{◌≡◌, refl, ℕ, Bool, true, false, List, ◌∷◌, Option, Some, None, if◌then◌else◌}
use Rattle.class_model.specs.declared.frame.Frame.{Frame}
use Rattle.class_tree.specs.Headers.{Name}
use Rattle.machine_values.specs.Frames.{MethodState}
use Rattle.machine_values.specs.declared.frame.RunFrame.{RunFrame}
use Rattle.machine_values.specs.declared.frame.RunFrame.TheVariants as frames
use Rattle.member_link.specs.Machine.Completions.{Completion, begins}
use Rattle.member_link.specs.Machine.FieldSteps.{begun_first}
use Rattle.member_link.specs.Machine.Ops.{Op}
use Rattle.member_link.specs.Machine.Performing.{perform}
use Rattle.member_link.specs.Machine.Programs.{Program, folder_number}
use Rattle.member_link.specs.Machine.Worlds.{World, is_begun}
use Rattle.member_link.specs.RowScope.{RowScope}
use Rattle.member_link.specs.Rows.Row.{Row}
use Rattle.typed_runs.proofs.BeginningSteps.{class_there, begun_on_stays}
use Rattle.typed_runs.proofs.Here.{Here}
use Rattle.typed_runs.specs.TypedFrames.{Does, upon}
use Rattle.typed_runs.specs.TypedPrograms.{Typings}
use Rattle.typed_runs.specs.TypedWorlds.{StaysTyped}

-- An operation whose class is begun first: then its frame stays as it is, below the beginning of the class.
module _ {P : Program} {T : Typings} {w : World} {f : MethodState} {rest : List RunFrame} {s : RowScope} {frame : Frame} {place : ℕ}
    {numbered : ℕ → ℕ} {row : Row} {op : Op} {falls : Bool} {places : List ℕ}
    (h : Here P T w f rest s frame place numbered row op falls places) (does : Does P T w.memory.heap f) where
  pub begins_goes : (taken : MethodState) (name : Name) (class : ℕ) → folder_number P name ≡ Some class
      → StaysTyped P T w (perform P w f taken rest (begins class))
  begins_goes taken name class is =
      let c = class_there P name class is in begun_on_stays P T w class c.0 (frames.Method f ∷ rest) h.typed c.1 (upon does h.below)

  pub begun_first_goes : (taken : MethodState) (name : Name) (otherwise : Completion)
      → StaysTyped P T w (perform P w f taken rest otherwise)
      → StaysTyped P T w (perform P w f taken rest (begun_first P w.memory name otherwise))
  begun_first_goes taken name otherwise done = by (folder_number P name) refl where
    by_begun : (class : ℕ) → folder_number P name ≡ Some class → (b : Bool)
        → StaysTyped P T w (perform P w f taken rest (if b then otherwise else begins class))
    by_begun class is true = done
    by_begun class is false = begins_goes taken name class is

    by : (n : Option ℕ) → folder_number P name ≡ n → StaysTyped P T w (perform P w f taken rest (begun_first P w.memory name otherwise))
    by None e = rw e done
    by (Some class) e = rw e (by_begun class e (is_begun w.memory class))
