-- What a folder and its written folder show of the same actions.
use Rattle.std.specs.Prelude.{◌≡◌, ◌≢◌, ℕ, List, ◌++◌, codes}
use Rattle.class_model.specs.declared.class_file.ClassFile.{ClassFile}
use Rattle.class_rewrite.specs.Optimised.{with_folder}
use Rattle.class_tree.specs.Headers.{Classes}
use Rattle.host_tree.specs.Host.{Bytes}
use Rattle.machine_values.specs.declared.action.Action.{Action}
use Rattle.machine_values.specs.declared.event.End.TheVariants as ends
use Rattle.machine_values.specs.declared.event.Shown.{Shown}
use Rattle.member_link.specs.TreePrograms.{IsProgram}
use Rattle.member_link.specs.Machine.Programs.{Program}
use Rattle.member_link.specs.Machine.Runs.{shown_after}
use Rattle.member_link.specs.Machine.SameRuns.{IsSameShown}
use Rattle.pea_top.specs.Lines.{line}
use Rattle.script_text.specs.Events.{events_text}

-- The first is what the program of the folder shows of these actions in at most so many steps, and the second what that of the written folder
-- shows. Neither ends stuck. Where the steps of neither are used up, both show the same events and the same end, and at each event the second has
-- allocated no more objects and entered no more monitors.
pub record AreBothShown (tree : Classes) (written : List ClassFile) (actions : List Action)
    (steps : ℕ) (before after : Shown)
    : Type 0 where
  pub first : Program
  pub is_first : IsProgram tree first
  pub before_is : before ≡ shown_after first actions steps
  pub second : Program
  pub is_second : IsProgram (with_folder tree written) second
  pub after_is : after ≡ shown_after second actions steps
  pub before_not_stuck : before.end ≢ ends.Stuck
  pub after_not_stuck : after.end ≢ ends.Stuck
  pub same : before.end ≢ ends.Running → after.end ≢ ends.Running → IsSameShown before after

-- the texts of two runs, one behind the other
abbrev pub both_text : Shown → Shown → Bytes
both_text before after =
    line (codes "before") ++ events_text before ++ line (codes "after") ++ events_text after
