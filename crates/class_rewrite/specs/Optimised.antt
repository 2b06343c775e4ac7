-- What optimising a folder promises of the folder that is written.
use Rattle.std.specs.Prelude.{ℕ, List}
use Rattle.class_model.specs.declared.class_file.ClassFile.{ClassFile}
use Rattle.class_rewrite.specs.Reports.{IsReport}
use Rattle.class_rewrite.specs.Rewriting.Folders.{IsFolderWritten}
use Rattle.class_rewrite.specs.Rewriting.Methods.{rewriting_of}
use Rattle.class_rewrite.specs.declared.folder.Optimised.{Optimised}
use Rattle.class_tree.specs.Headers.{Classes, Name, headers_of}
use Rattle.flow_code.specs.TypedFrames.{FolderFrames}
use Rattle.member_link.specs.TreePrograms.{IsProgram}
use Rattle.member_link.specs.Machine.Links.{AreLinksOf}
use Rattle.member_link.specs.Machine.Programs.{Links, Program}
use Rattle.member_link.specs.Machine.SameRuns.{SameRuns}
use Rattle.type_rules.specs.Verified.{IsVerified}

-- other class files with the same library
abbrev pub with_folder : Classes → List ClassFile → Classes
with_folder classes folder = record { folder = folder; library = classes.library }

-- The second folder runs as the first: for every list of actions of the library its program shows the same events and the same end, it goes on
-- exactly where the first goes on, and at each event it has allocated no more objects and entered no more monitors. A folder has one program
-- (`links_of_a_hierarchy_are_one`).
pub record RunsAs (before after : Classes) : Type 0 where
  pub first : Program
  pub is_first : IsProgram before first
  pub second : Program
  pub is_second : IsProgram after second
  pub same_runs : SameRuns first second

-- The folder that is written verifies, and runs as the folder that was read.
pub record KeepsMeaning (classes : Classes) (written : List ClassFile) : Type 0 where
  pub verified : IsVerified (with_folder classes written)
  pub runs : RunsAs classes (with_folder classes written)

-- What optimising a folder gives: the written folder, by links of the folder and descriptors of field constructors, and the report.
pub record IsOptimised (classes : Classes) (typed : FolderFrames) (optimised : Optimised)
    : Type 0 where
  pub links : Links
  pub are_links : AreLinksOf (headers_of classes) links
  pub constructor : Name → List ℕ
  pub written : IsFolderWritten (rewriting_of classes typed links constructor) optimised.classes
  pub report : IsReport (rewriting_of classes typed links constructor) optimised.report
  pub keeps : KeepsMeaning classes optimised.classes
