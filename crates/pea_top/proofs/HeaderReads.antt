-- What is read of the files of a library.
use Rattle.std.proofs.Common.{◌≡◌, List, [], ◌∷◌, ◌++◌, IsTrue, Result, Err, sym, subst}
use Rattle.class_model.specs.Checks.{fault}
use Rattle.class_model.specs.Header.{HeaderOf}
use Rattle.class_model.specs.declared.header.Header.{Header}
use Rattle.host_tree.specs.Host.{Bytes, Folder}
use Rattle.pea_top.specs.Folders.{AreNames, names_class_file, HasClassFiles, AreReadAs}
use Rattle.pea_top.specs.Answer.{broken, other_version, IsRefusedHeader, IsFirstRefused}
use Rattle.pea_top.specs.Inner.Reading.{IsLibraryOrWhy}
use Rattle.pea_top.specs.Inner.ReadingSteps.{IsGoodHeader, IsHeaderOrWhy}
use Rattle.pea_top.specs.declared.reading.ReadStop.{ReadStop}
use Rattle.pea_top.specs.declared.reading.ReadStop.TheVariants.{Fault, NoMemory, Malformed, Version}
use Rattle.pea_top.proofs.FolderReads.{HasRead, nothing_read, one_more_class, one_more_other, all_names, first_refused}

-- the headers of some first files were read, and the files with the names in left are to be read
pub record HasReadHeaders (library : Folder) (names left : List Bytes) (headers : List Header) : Type 0 where
  pub done : List Bytes
  pub read : HasRead HeaderOf IsRefusedHeader library names done left headers

-- what is found in an unchanged folder
pub IsHeaderOrWhy-same : {library again : Folder} → ((name : Bytes) → again name ≡ library name) → (name : Bytes) (result : Result Header ReadStop) → IsHeaderOrWhy again name result → IsHeaderOrWhy library name result
IsHeaderOrWhy-same same name result = subst (λ (library : Folder). IsHeaderOrWhy library name result) (λ i other. same other i)

pub IsLibraryOrWhy-same : {library again : Folder} → ((name : Bytes) → again name ≡ library name) → (result : Result (List Header) ReadStop) → IsLibraryOrWhy again result → IsLibraryOrWhy library result
IsLibraryOrWhy-same same result = subst (λ (library : Folder). IsLibraryOrWhy library result) (λ i name. same name i)

-- before the first file
pub no_header_read : (library : Folder) {names left : List Bytes} → left ≡ names → HasReadHeaders library names left []
no_header_read library all = record { done = []; read = nothing_read HeaderOf IsRefusedHeader library all }

-- the next file is a class file and its header is read
pub one_more_header : {library : Folder} {names left : List Bytes} {headers : List Header} {name : Bytes} {header : Header}
    → HasReadHeaders library names (name ∷ left) headers → IsTrue (names_class_file name) → IsGoodHeader library name header → HasReadHeaders library names left (headers ++ header ∷ [])
one_more_header {name = name} {header = header} read named good = record { done = read.done ++ name ∷ []; read = one_more_class read.read good.bytes header named good.there good.is_header good.not_refused }

-- it is none
pub one_more_passed : {library : Folder} {names left : List Bytes} {headers : List Header} {name : Bytes}
    → HasReadHeaders library names (name ∷ left) headers → ¬ IsTrue (names_class_file name) → HasReadHeaders library names left headers
one_more_passed {name = name} read other = record { done = read.done ++ name ∷ []; read = one_more_other read.read other }

pub all_headers_read : {library : Folder} {names : List Bytes} {headers : List Header} → AreNames library names → HasReadHeaders library names [] headers → HasClassFiles HeaderOf library headers
all_headers_read {library} {names} {headers} are read = record {
  names = names;
  are_names = are;
  are_read = subst (λ (done : List Bytes). AreReadAs HeaderOf library done headers) (all_names read.read) read.read.are_read;
}

-- where the next file stops the reading
pub why_from_header : {library : Folder} {names left : List Bytes} {headers : List Header} {name : Bytes}
    → AreNames library names → HasReadHeaders library names (name ∷ left) headers → (stop : ReadStop) → IsHeaderOrWhy library name (Err stop) → IsLibraryOrWhy library (Err stop)
why_from_header are read (Fault call) why = tt
why_from_header are read NoMemory why = tt
why_from_header {library} are read (Malformed refused at rule file) why = subst (λ (name : Bytes). IsFirstRefused IsRefusedHeader library name (broken (fault at rule))) (sym why.0) (first_refused are read.read why.1)
why_from_header {library} are read (Version refused major minor side) why =
    subst (λ (name : Bytes). IsFirstRefused IsRefusedHeader library name (other_version (record { minor = minor; major = major }))) (sym why.0) (first_refused are read.read why.1)
