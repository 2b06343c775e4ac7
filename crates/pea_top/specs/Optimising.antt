-- What optimising the class files of a folder writes, and what is printed of it.
use Rattle.std.specs.Prelude.{◌≡◌, ◌-◌, ℕ, List, length, slice_get, Some, None, IsTrue}
use Rattle.class_model.specs.ClassOf.{ClassOf}
use Rattle.class_model.specs.Spelling.{class_bytes}
use Rattle.class_model.specs.declared.class_file.ClassFile.{ClassFile}
use Rattle.class_model.specs.declared.header.Header.{Header}
use Rattle.class_rewrite.specs.Optimised.{IsOptimised}
use Rattle.class_rewrite.specs.Reports.{rewritten_count}
use Rattle.class_rewrite.specs.declared.folder.Optimised.{Optimised}
use Rattle.class_tree.specs.Headers.{Classes, headers_of}
use Rattle.class_tree.specs.Trees.{IsArranged}
use Rattle.host_tree.specs.Host.{Bytes, Folder}
use Rattle.type_rules.specs.Verified.{IsVerified}
use Rattle.pea_top.specs.Answer.{AreRead}
use Rattle.pea_top.specs.Folders.{names_class_file}
use Rattle.pea_top.specs.Lines.{report_text, summary_line}

-- The class files of a folder verify with the headers of a library as this hierarchy, and this is the folder that is written of it, with the
-- report.
pub record AreOptimised (input library : Folder) (tree : Classes) (optimised : Optimised)
    : Type 0 where
  pub classes : List ClassFile
  pub headers : List Header
  pub read : AreRead input library classes headers
  pub arranged : IsArranged classes headers tree
  pub verified : IsVerified tree
  pub is : IsOptimised tree verified.typed optimised

-- ---- files

-- What is written under the name of a file: a class file becomes the one that the written folder has for its class, and any other file is as it
-- was.
pub data IsFinal (tree : Classes) (written : List ClassFile) (name before after : Bytes)
    : Type 0 where
  other_file : ¬ IsTrue (names_class_file name)
      → after ≡ before
      → IsFinal tree written name before after
  class_file : (class final : ClassFile) (number : ℕ)
      → IsTrue (names_class_file name)
      → ClassOf before class
      → slice_get tree.folder number ≡ Some class
      → slice_get written number ≡ Some final
      → after ≡ class_bytes final
      → IsFinal tree written name before after

-- the files that are written for those of the input, under the same names
pub record AreFinal (tree : Classes) (written : List ClassFile) (input final : Folder) : Type 0 where
  pub each : (name before : Bytes)
      → input name ≡ Some before
      → (after : Bytes) × (final name ≡ Some after) × IsFinal tree written name before after
  pub no_other : (name : Bytes) → input name ≡ None → final name ≡ None

-- The files that are written of an input are put somewhere.
pub record PutsOptimised (Put : Folder → Type 0) (input library : Folder) : Type 0 where
  pub tree : Classes
  pub optimised : Optimised
  pub are : AreOptimised input library tree optimised
  pub final : Folder
  pub are_final : AreFinal tree optimised.classes input final
  pub put : Put final

-- ---- texts

-- the line that sums up what was written, of so many files, of which so many are class files
pub record IsOptimisedLine (input library : Folder) (files classes : ℕ) (text : Bytes)
    : Type 0 where
  pub tree : Classes
  pub optimised : Optimised
  pub are : AreOptimised input library tree optimised
  pub is : text
      ≡ summary_line files classes (rewritten_count optimised.report)
      (length optimised.report - rewritten_count optimised.report)

-- the lines that say what becomes of each method
pub record IsPlanText (input library : Folder) (text : Bytes) : Type 0 where
  pub tree : Classes
  pub optimised : Optimised
  pub are : AreOptimised input library tree optimised
  pub is : text ≡ report_text (headers_of tree) optimised.report
