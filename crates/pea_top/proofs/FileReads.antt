-- What is read of the files of an input.
use Rattle.std.proofs.Common.{◌≡◌, true, false, List, [], ◌∷◌, ◌++◌, map, Option, Some, None, Result, Err, Vec, Global, sym, ◌∙◌, subst}
use Rattle.std.proofs.lemmas.Bool.{false≢true}
use Rattle.std.proofs.lemmas.List.{map_push, append-nil}
use Rattle.std.specs.List.{AllByRecursion}
use Rattle.class_model.specs.Checks.{fault}
use Rattle.class_model.specs.ClassOf.{ClassOf}
use Rattle.class_model.specs.declared.class_file.ClassFile.{ClassFile}
use Rattle.host_tree.specs.Host.{Bytes, Folder}
use Rattle.pea_top.specs.Folders.{AreNames, names_class_file}
use Rattle.pea_top.specs.Answer.{Refusal, broken, other_version, IsRefusedClass, IsFirstRefused}
use Rattle.pea_top.specs.Inner.Reading.{AreGoodFiles, IsReadOrWhy}
use Rattle.pea_top.specs.Inner.ReadingSteps.{IsClassOf, IsGoodFile, IsFileOrWhy}
use Rattle.pea_top.specs.declared.reading.ReadStop.{ReadStop}
use Rattle.pea_top.specs.declared.reading.ReadStop.TheVariants.{Fault, NoMemory, Malformed, Version}
use Rattle.pea_top.specs.declared.folder.NamedFile.{NamedFile}
use Rattle.pea_top.proofs.FolderReads.{kept_class, kept_other, All-push, HasRead, nothing_read, one_more_class, one_more_other, all_names, none_refused, first_refused}

module _ (folder : Folder) (name bytes : Bytes) (there : folder name ≡ Some bytes) where
  -- a file that is no class file by its name
  pub good_other : names_class_file name ≡ false → IsGoodFile folder (record { name = name; bytes = bytes }) None
  good_other other = record { there = there; is_class = λ named. false≢true (sym other ∙ named); not_refused = kept_other name other }

  -- a class file that is read
  pub good_class : (class : ClassFile) → names_class_file name ≡ true → ClassOf bytes class → ((why : Refusal) → ¬ IsRefusedClass bytes why) → IsGoodFile folder (record { name = name; bytes = bytes }) (Some class)
  good_class class named is none = record { there = there; is_class = (named, is); not_refused = kept_class name bytes there none }

-- the class of a file, where it has one
abbrev pub listed : Option ClassFile → List ClassFile
listed None = []
listed (Some class) = class ∷ []

-- these files were read, and the files with the names in left are to be read
pub record HasReadFiles (folder : Folder) (names left : List Bytes) (files : List NamedFile) (classes : List ClassFile) : Type 0 where
  pub read : HasRead ClassOf IsRefusedClass folder names (map (λ file. file.name) files) left classes
  pub contents : AllByRecursion (λ file. folder file.name ≡ Some file.bytes) files

-- what is found in an unchanged folder
pub IsFileOrWhy-same : {folder again : Folder} → ((name : Bytes) → again name ≡ folder name) → (name : Bytes) (result : Result (NamedFile × Option ClassFile) ReadStop) → IsFileOrWhy again name result → IsFileOrWhy folder name result
IsFileOrWhy-same same name result = subst (λ (folder : Folder). IsFileOrWhy folder name result) (λ i other. same other i)

pub IsReadOrWhy-same : {folder again : Folder} → ((name : Bytes) → again name ≡ folder name) → (result : Result (Vec NamedFile Global × List ClassFile) ReadStop) → IsReadOrWhy again result → IsReadOrWhy folder result
IsReadOrWhy-same same result = subst (λ (folder : Folder). IsReadOrWhy folder result) (λ i name. same name i)

-- before the first file
pub no_file_read : (folder : Folder) {names left : List Bytes} → left ≡ names → HasReadFiles folder names left [] []
no_file_read folder all = record { read = nothing_read ClassOf IsRefusedClass folder all; contents = tt }

-- the file is read
pub one_more_file : {folder : Folder} {names left : List Bytes} {files : List NamedFile} {classes : List ClassFile} {name : Bytes} {file : NamedFile} {class : Option ClassFile}
    → HasReadFiles folder names (name ∷ left) files classes → file.name ≡ name → IsGoodFile folder file class → HasReadFiles folder names left (files ++ file ∷ []) (classes ++ listed class)
one_more_file {folder} {names} {left} {files} {classes} {name} {file} {class} read named good = record {
  read = subst (λ (done : List Bytes). HasRead ClassOf IsRefusedClass folder names done left (classes ++ listed class)) (sym (map_push (λ f. f.name) files file))
      (by class good.is_class);
  contents = All-push _ files file read.contents good.there;
}
  where
    before : HasRead ClassOf IsRefusedClass folder names (map (λ f. f.name) files) (file.name ∷ left) classes
    before = rw named read.read

    by : (class : Option ClassFile) → IsClassOf file.name file.bytes class → HasRead ClassOf IsRefusedClass folder names (map (λ f. f.name) files ++ file.name ∷ []) left (classes ++ listed class)
    by (Some class) is = one_more_class before file.bytes class is.0 good.there is.1 good.not_refused
    by None other = rw (append-nil classes) (one_more_other before other)

pub all_files_read : {folder : Folder} {names : List Bytes} {files : List NamedFile} {classes : List ClassFile} → AreNames folder names → HasReadFiles folder names [] files classes → AreGoodFiles folder files classes
all_files_read {folder} are read = record {
  are = record { names = subst (AreNames folder) (sym (all_names read.read)) are; contents = read.contents };
  are_read = read.read.are_read;
  none_refused = none_refused are read.read;
}

-- where the next file stops the reading
pub why_from_file : {folder : Folder} {names left : List Bytes} {files : List NamedFile} {classes : List ClassFile} {name : Bytes}
    → AreNames folder names → HasReadFiles folder names (name ∷ left) files classes → (stop : ReadStop) → IsFileOrWhy folder name (Err stop) → IsReadOrWhy folder (Err stop)
why_from_file are read (Fault call) why = tt
why_from_file are read NoMemory why = tt
why_from_file {folder} are read (Malformed refused at rule file) why = subst (λ (name : Bytes). IsFirstRefused IsRefusedClass folder name (broken (fault at rule))) (sym why.0) (first_refused are read.read why.1)
why_from_file {folder} are read (Version refused major minor side) why =
    subst (λ (name : Bytes). IsFirstRefused IsRefusedClass folder name (other_version (record { minor = minor; major = major }))) (sym why.0) (first_refused are read.read why.1)
