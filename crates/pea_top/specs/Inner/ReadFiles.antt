-- What is known of the files that were read, whatever the host tells.
use Rattle.std.specs.Prelude.{◌≡◌, List, [], ◌∷◌, map, Option, Some, None, IsTrue}
use Rattle.class_bytes.specs.Counts.{FitsCounts}
use Rattle.class_model.specs.ClassOf.{ClassOf}
use Rattle.class_model.specs.Header.{header_of}
use Rattle.class_model.specs.Spelling.{class_bytes}
use Rattle.class_model.specs.declared.class_file.ClassFile.{ClassFile}
use Rattle.class_model.specs.declared.header.Header.{Header}
use Rattle.class_tree.specs.Headers.{Classes, Name}
use Rattle.class_tree.specs.Trees.{IsArranged}
use Rattle.pea_top.specs.Folders.{names_class_file}
use Rattle.pea_top.specs.declared.folder.NamedFile.{NamedFile}
use Rattle.pea_top.specs.declared.work.Work.{Work}
use Rattle.pea_top.specs.declared.work.Work.TheVariants as works

-- the class that a class file is read as; its lists fit their counts
pub record IsReadAs (file : NamedFile) (class : ClassFile) : Type 0 where
  pub named : IsTrue (names_class_file file.name)
  pub is : ClassOf file.bytes class
  pub spelled : file.bytes ≡ class_bytes class
  pub fits : FitsCounts class

-- a class file has its class, and another file has none
abbrev pub IsReadClass : NamedFile → Option ClassFile → Type 0
IsReadClass file (Some class) = IsReadAs file class
IsReadClass file None = ¬ IsTrue (names_class_file file.name)

-- the class files among these files are read as these classes, in order
pub data AreClassesOf : List NamedFile → List ClassFile → Type 0 where
  no_files : AreClassesOf [] []
  and_class : (file : NamedFile) (class : ClassFile) (files : List NamedFile)
      (classes : List ClassFile)
      → IsReadAs file class
      → AreClassesOf files classes
      → AreClassesOf (file ∷ files) (class ∷ classes)
  and_other : (file : NamedFile) (files : List NamedFile) (classes : List ClassFile)
      → ¬ IsTrue (names_class_file file.name)
      → AreClassesOf files classes
      → AreClassesOf (file ∷ files) classes

-- the names of classes
abbrev pub class_names : List ClassFile → List Name
class_names classes = map (λ class. (header_of class).name) classes

-- the work of optimising has the names of the classes of class files, in order
abbrev pub HasNames : Work → List ClassFile → Type 0
HasNames (works.Optimise folder names) classes = names.items ≡ class_names classes
HasNames work classes = Unit {0}

-- The class files among these files are those of this hierarchy, and these are the names of their classes, in order.
pub record AreFilesOf (files : List NamedFile) (tree : Classes) (names : List Name) : Type 0 where
  pub classes : List ClassFile
  pub headers : List Header
  pub pairs : AreClassesOf files classes
  pub arranged : IsArranged classes headers tree
  pub names_are : names ≡ class_names classes

-- the same where the work is to optimise them
abbrev pub AreFilesFor : List NamedFile → Classes → Work → Type 0
AreFilesFor files tree (works.Optimise folder names) = AreFilesOf files tree names.items
AreFilesFor files tree work = Unit {0}
