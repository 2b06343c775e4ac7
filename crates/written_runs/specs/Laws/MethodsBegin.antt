-- Frames with which methods begin go together, where methods that are not rewritten run their own codes in both programs.
use Rattle.std.proofs.Common.{◌≡◌, ℕ, List, ◌∷◌, length, Option, Some, None, refl}
use Rattle.class_model.specs.declared.class_file.MethodAt.{MethodAt}
use Rattle.machine_values.specs.declared.frame.RunFrame.{RunFrame}
use Rattle.machine_values.specs.declared.frame.RunFrame.TheVariants.{Method}
use Rattle.machine_values.specs.declared.value.Value.{Value}
use Rattle.member_link.specs.Machine.Beginnings.{frame_with}
use Rattle.member_link.specs.Machine.Programs.{Program, RunMethod, code_at, run_method}
use Rattle.plan_flow.specs.Written.WrittenPrograms.{WrittenMethod}
use Rattle.same_runs.specs.Laws.Units.{begun_same}
use Rattle.same_runs.specs.Renamings.{Names, SameHeld, SameUnits, no_values}
use Rattle.written_runs.specs.Inner.PlannedFrames.{Known}
use Rattle.written_runs.specs.Inner.Setup.{Setup, first, second}
use Rattle.written_runs.specs.Inner.Standing.{HasNone, SameTop, Stands, begins_fresh, own_stand, stands, is_awaited}
use Rattle.written_runs.specs.VirtualObjects.{Virtuals}

-- a method of the first program that is not rewritten runs its own code in both
pub record RunsOwnCodes (u : Setup) : Type 0 where
  pub same : (at : MethodAt) (method : RunMethod)
      → u.written at ≡ None
      → run_method (first u) at ≡ Some method
      → code_at (second u) at ≡ code_at (first u) at

module _ {u : Setup} (codes : RunsOwnCodes u) where
  abbrev P : Program
  P = first u

  abbrev Q : Program
  Q = second u

  -- a method begins in both
  pub begins_same : {virtuals : Virtuals} {known : Known} {names : Names} (at : MethodAt) (method : RunMethod)
      {units also : List (Option Value)} {held held_also : Option ℕ} {ones others : List RunFrame}
      → run_method P at ≡ Some method
      → SameUnits names units also
      → SameHeld names held held_also
      → HasNone virtuals (length ones)
      → Stands u virtuals known (is_awaited u at) names ones others
      → SameTop u virtuals known names (Method (frame_with P at units held) ∷ ones) (Method (frame_with Q at also held_also) ∷ others)
  begins_same {virtuals = virtuals} {known = known} {names = names} at method {units = units} {also = also} {held = held} {held_also = held_also}
      {ones = ones} {others = others} is_method same held_same has_none below = by (u.written at) refl where
        by : (written : Option WrittenMethod) → u.written at ≡ written
            → SameTop u virtuals known names (Method (frame_with P at units held) ∷ ones) (Method (frame_with Q at also held_also) ∷ others)
        by None is = stands (own_stand (record {
          not_written = is;
          at = refl;
          place = refl;
          locals = begun_same P Q at held held_also (codes.same at method is is_method) same;
          stack = no_values;
          held = held_same;
        }) below)
        by (Some one) is = begins_fresh (record {
          at = at;
          one = one;
          is_written = is;
          units = units;
          units_also = also;
          same = same;
          held = held_same;
          is = refl;
          is_also = refl;
        }) has_none below
