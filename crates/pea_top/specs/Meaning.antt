-- The headline: what is written means what was read.
use Rattle.std.specs.Prelude.{◌≡◌, List, Some, None, is_some, IsSome, IsTrue, if◌then◌else◌}
use Rattle.class_model.specs.ClassOf.{ClassOf}
use Rattle.class_model.specs.Header.{HeaderOf}
use Rattle.class_model.specs.declared.class_file.ClassFile.{ClassFile}
use Rattle.class_model.specs.declared.header.Header.{Header}
use Rattle.class_tree.specs.Headers.{Classes}
use Rattle.class_tree.specs.Trees.{IsArranged}
use Rattle.host_tree.specs.Host.{Bytes, Folder}
use Rattle.member_link.specs.TreePrograms.{IsProgram}
use Rattle.member_link.specs.Machine.Programs.{Program}
use Rattle.member_link.specs.Machine.SameRuns.{SameRuns}
use Rattle.type_rules.specs.Verified.{IsVerified}
use Rattle.pea_top.specs.Folders.{HasClassFiles, names_class_file}

-- The class files of a folder verify with those of a library: read as class files and headers, they are these classes, which are a hierarchy that
-- is linked, and frames type each method with code. This is the program that they run.
pub record IsVerifiedProgram (folder library : Folder) (P : Program) : Type 0 where
  pub files : List ClassFile
  pub files_read : HasClassFiles ClassOf folder files
  pub headers : List Header
  pub headers_read : HasClassFiles HeaderOf library headers
  pub classes : Classes
  pub arranged : IsArranged files headers classes
  pub verified : IsVerified classes
  pub program : IsProgram classes P

-- The folder that is written means what the folder that was read means, with the same library: both verify; for every list of actions of the
-- library the second program shows the same events and the same end as the first, it goes on exactly where the first goes on, and at each event it has
-- allocated no more objects and entered no more monitors. No file is missing, and those that are no class files are the same.
pub record MeansTheSame (input library output : Folder) : Type 0 where
  pub before : Program
  pub is_before : IsVerifiedProgram input library before
  pub after : Program
  pub is_after : IsVerifiedProgram output library after
  pub same_runs : SameRuns before after
  pub there : (name : Bytes) → IsSome (input name) → IsSome (output name)
  pub other_files : (name bytes : Bytes)
      → ¬ IsTrue (names_class_file name)
      → input name ≡ Some bytes
      → output name ≡ Some bytes

-- what a folder holds under the names of another
abbrev pub under_names : Folder → Folder → Folder
under_names names folder name = if is_some (names name) then folder name else None
