-- What reading the input and the library of a command gives.
use Rattle.std.specs.Prelude.{◌≡◌, List, map, Vec, Some, Result, Ok, Err}
use Rattle.std.specs.List.{AllByRecursion}
use Rattle.std.specs.declared.alloc.Global.{Global}
use Rattle.class_model.specs.Checks.{fault}
use Rattle.class_model.specs.ClassOf.{ClassOf}
use Rattle.class_model.specs.Header.{HeaderOf}
use Rattle.class_model.specs.declared.class_file.ClassFile.{ClassFile}
use Rattle.class_model.specs.declared.header.Header.{Header}
use Rattle.host_tree.specs.Host.{Bytes, Folder}
use Rattle.pea_top.specs.Folders.{AreNames, AreReadAs, HasClassFiles}
use Rattle.pea_top.specs.Answer.{Refusal, broken, other_version, IsRefusedClass, IsRefusedHeader, NoneRefused, IsFirstRefused, IsFirstOf}
use Rattle.pea_top.specs.declared.folder.NamedFile.{NamedFile}
use Rattle.pea_top.specs.declared.reading.Input.{Input}
use Rattle.pea_top.specs.declared.reading.ReadStop.{ReadStop}
use Rattle.pea_top.specs.declared.reading.ReadStop.TheVariants.{Fault, NoMemory, Malformed, Version}
use Rattle.pea_top.specs.declared.status.Status.{Status}
use Rattle.pea_top.specs.declared.status.Status.TheVariants as statuses

-- the files of the folder, in byte order of their names
pub record AreFiles (folder : Folder) (files : List NamedFile) : Type 0 where
  pub names : AreNames folder (map (λ file. file.name) files)
  pub contents : AllByRecursion (λ file. folder file.name ≡ Some file.bytes) files

-- all files of the folder, and what its class files are, none of which is refused
pub record AreGoodFiles (folder : Folder) (files : List NamedFile) (classes : List ClassFile)
    : Type 0 where
  pub are : AreFiles folder files
  pub are_read : AreReadAs ClassOf folder (map (λ file. file.name) files) classes
  pub none_refused : NoneRefused IsRefusedClass folder

-- What is said of the refused file at which reading stops, and why it is refused. Where a call failed or memory ran out nothing
-- is said.
abbrev pub StopsAt : (Bytes → Refusal → Type 0) → ReadStop → Type 0
StopsAt Holds (Fault call) = Unit {0}
StopsAt Holds NoMemory = Unit {0}
StopsAt Holds (Malformed name at rule file) = Holds name (broken (fault at rule))
StopsAt Holds (Version name major minor side) =
    Holds name (other_version (record { minor = minor; major = major }))

-- the status of a command whose reading stops
abbrev pub status_of : ReadStop → Status
status_of (Fault call) = statuses.HostFault call
status_of NoMemory = statuses.NoMemory
status_of (Malformed name at rule file) = statuses.Malformed name at rule
status_of (Version name major minor side) = statuses.Version name major minor

-- the files and class files of the folder, or its first file that is refused
abbrev pub IsReadOrWhy : Folder → Result (Vec NamedFile Global × List ClassFile) ReadStop → Type 0
IsReadOrWhy folder (Ok (files, classes)) = AreGoodFiles folder files.items classes
IsReadOrWhy folder (Err stop) = StopsAt (IsFirstRefused IsRefusedClass folder) stop

-- the headers of the library, or its first file that is refused
abbrev pub IsLibraryOrWhy : Folder → Result (List Header) ReadStop → Type 0
IsLibraryOrWhy library (Ok headers) = HasClassFiles HeaderOf library headers
IsLibraryOrWhy library (Err stop) = StopsAt (IsFirstRefused IsRefusedHeader library) stop

-- the files of the input and the headers of the library, or the first file that is refused
abbrev pub IsInputOrWhy : Folder → Folder → Result Input ReadStop → Type 0
IsInputOrWhy folder library (Ok input) =
    AreGoodFiles folder input.files.items input.classes
    × HasClassFiles HeaderOf library input.headers
IsInputOrWhy folder library (Err stop) = StopsAt (IsFirstOf folder library) stop
