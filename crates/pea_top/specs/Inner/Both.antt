-- What is made of a folder and its written folder.
use Rattle.std.specs.Prelude.{◌≡◌, ℕ, List, length}
use Rattle.class_rewrite.specs.Optimised.{IsOptimised}
use Rattle.class_rewrite.specs.declared.folder.Optimised.{Optimised}
use Rattle.class_tree.specs.Headers.{Classes}
use Rattle.flow_code.specs.TypedFrames.{FolderFrames}
use Rattle.host_tree.specs.Host.{Bytes}
use Rattle.machine_values.specs.declared.action.Action.{Action}
use Rattle.machine_values.specs.declared.event.Shown.{Shown}
use Rattle.member_link.specs.Machine.SameRuns.{IsSameShown}
use Rattle.pea_top.specs.Both.{AreBothShown, both_text}
use Rattle.pea_top.specs.declared.both.Runs.{Runs}

-- the report of a folder that is optimised, and what this folder and its written folder show
pub record AreRuns (tree : Classes) (typed : FolderFrames) (actions : List Action) (steps : ℕ)
    (runs : Runs)
    : Type 0 where
  pub optimised : Optimised
  pub is : IsOptimised tree typed optimised
  pub report_is : runs.report ≡ optimised.report
  pub shown : AreBothShown tree optimised.classes actions steps runs.before runs.after
  -- where the number of events and the end are equal, all is
  pub counted : length runs.before.events ≡ length runs.after.events
      → runs.after.end ≡ runs.before.end
      → IsSameShown runs.before runs.after

-- the text of both
pub record AreBoth (tree : Classes) (typed : FolderFrames) (actions : List Action) (steps : ℕ)
    (text : Bytes)
    : Type 0 where
  pub optimised : Optimised
  pub is : IsOptimised tree typed optimised
  pub before : Shown
  pub after : Shown
  pub shown : AreBothShown tree optimised.classes actions steps before after
  pub text_is : text ≡ both_text before after
