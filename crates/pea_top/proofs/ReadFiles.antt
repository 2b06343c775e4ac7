-- The class files among files that are read one after the other.
use Rattle.std.proofs.Common.{List, [], ◌∷◌, ◌++◌, IsTrue}
use Rattle.class_model.specs.declared.class_file.ClassFile.{ClassFile}
use Rattle.class_model.specs.declared.header.Header.{Header}
use Rattle.class_tree.specs.Headers.{Classes}
use Rattle.class_tree.specs.Trees.{IsArranged}
use Rattle.pea_top.specs.Folders.{names_class_file}
use Rattle.pea_top.specs.declared.work.Work.{Work}
use Rattle.pea_top.specs.declared.work.Work.TheVariants as works
use Rattle.pea_top.specs.Inner.ReadFiles.{AreClassesOf, AreFilesFor, HasNames, IsReadAs, and_class, and_other, no_files}
use Rattle.pea_top.specs.declared.folder.NamedFile.{NamedFile}

pub one_more_class : {files : List NamedFile} {classes : List ClassFile} (file : NamedFile) (class : ClassFile) → AreClassesOf files classes → IsReadAs file class → AreClassesOf (files ++ file ∷ []) (classes ++ class ∷ [])
one_more_class file class no_files is = and_class file class [] [] is no_files
one_more_class file class (and_class first its_class files classes first_is rest) is = and_class first its_class (files ++ file ∷ []) (classes ++ class ∷ []) first_is (one_more_class file class rest is)
one_more_class file class (and_other first files classes not_named rest) is = and_other first (files ++ file ∷ []) (classes ++ class ∷ []) not_named (one_more_class file class rest is)

pub one_more_other : {files : List NamedFile} {classes : List ClassFile} (file : NamedFile) → AreClassesOf files classes → ¬ IsTrue (names_class_file file.name) → AreClassesOf (files ++ file ∷ []) classes
one_more_other file no_files other = and_other file [] [] other no_files
one_more_other file (and_class first its_class files classes first_is rest) other = and_class first its_class (files ++ file ∷ []) classes first_is (one_more_other file rest other)
one_more_other file (and_other first files classes not_named rest) other = and_other first (files ++ file ∷ []) classes not_named (one_more_other file rest other)

-- what is known of the files that were read, with the hierarchy of their classes
pub files_for : (files : List NamedFile) (classes : List ClassFile) (headers : List Header) (tree : Classes) (work : Work) → AreClassesOf files classes → IsArranged classes headers tree → HasNames work classes → AreFilesFor files tree work
files_for files classes headers tree (works.Optimise folder names) pairs arranged same = record { classes = classes; headers = headers; pairs = pairs; arranged = arranged; names_are = same }
files_for files classes headers tree works.Plan pairs arranged same = tt
files_for files classes headers tree (works.Print line) pairs arranged same = tt
files_for files classes headers tree (works.Run actions most) pairs arranged same = tt
files_for files classes headers tree (works.Both actions most) pairs arranged same = tt
