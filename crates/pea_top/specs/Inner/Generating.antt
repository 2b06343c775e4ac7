-- What the steps of generating work promise.
use Rattle.std.specs.Prelude.{◌≡◌, ◌≤◌, ℕ, List, length}
use Rattle.class_model.specs.declared.class_file.ClassFile.{ClassFile}
use Rattle.class_rewrite.specs.Optimised.{IsOptimised}
use Rattle.class_rewrite.specs.declared.folder.Optimised.{Optimised}
use Rattle.class_tree.specs.Headers.{Classes}
use Rattle.class_tree.specs.Trees.{IsArranged}
use Rattle.flow_code.specs.TypedFrames.{FolderFrames}
use Rattle.host_tree.specs.Host.{Bytes}
use Rattle.machine_values.specs.declared.action.Action.{Action}
use Rattle.machine_values.specs.declared.event.Shown.{Shown}
use Rattle.type_rules.specs.Verified.{IsVerified, TypesFolder}
use Rattle.work_gen.specs.BaseLibrary.{base_headers}
use Rattle.pea_top.specs.Both.{AreBothShown}
use Rattle.pea_top.specs.Generating.{SaysWhether, generated_line}
use Rattle.pea_top.specs.Words.{Command, Generated}

-- the numbers of generated work are within their bounds
abbrev pub IsBounded : Command → Type 0
IsBounded (Generated number size) = (number ≤ 2147483647) × (size ≤ 1000)
IsBounded command = Unit {0}

-- class files verify with the base library, in whichever order
abbrev pub VerifyWithBase : List ClassFile → Type 0
VerifyWithBase folder =
    (classes : Classes) → IsArranged folder base_headers classes → IsVerified classes

-- the hierarchy of these class files and the base library
pub record IsBaseTree (folder : List ClassFile) (classes : Classes) : Type 0 where
  pub arranged : IsArranged folder base_headers classes
  pub verified : IsVerified classes

-- as many events, and the same end
pub record AreCountedAlike (before after : Shown) : Type 0 where
  pub count : length before.events ≡ length after.events
  pub end : after.end ≡ before.end

-- What the frames of a folder give: the folder is optimised, and it and its written folder are run by these actions, and a line says what they
-- show.
pub record AreRunsTold (tree : Classes) (actions : List Action) (number size : ℕ) (text : Bytes)
    : Type 0 where
  pub typed : FolderFrames
  pub types : TypesFolder tree typed
  pub optimised : Optimised
  pub is_optimised : IsOptimised tree typed optimised
  pub before : Shown
  pub after : Shown
  pub shown : AreBothShown tree optimised.classes actions 1000000 before after
  pub word : Bytes
  pub says : SaysWhether before after word
  pub is : text ≡ generated_line number size optimised.report before after word
