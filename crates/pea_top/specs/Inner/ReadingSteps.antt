-- What the steps of reading a folder give.
use Rattle.std.specs.Prelude.{◌≡◌, Option, Some, None, Result, Ok, Err, IsTrue}
use Rattle.class_model.specs.Checks.{fault}
use Rattle.class_model.specs.ClassOf.{ClassOf}
use Rattle.class_model.specs.Header.{HeaderOf}
use Rattle.class_model.specs.declared.class_file.ClassFile.{ClassFile}
use Rattle.class_model.specs.declared.fault.ClassFault.{ClassFault}
use Rattle.class_model.specs.declared.fault.ClassFault.TheVariants as faults
use Rattle.class_model.specs.declared.header.Header.{Header}
use Rattle.host_tree.specs.Host.{Folder, Bytes}
use Rattle.host_tree.specs.declared.call.HostCall.{HostCall}
use Rattle.pea_top.specs.Answer.{Refusal, broken, other_version, IsRefusedClass, IsRefusedHeader, IsRefused}
use Rattle.pea_top.specs.Folders.{names_class_file}
use Rattle.pea_top.specs.Inner.Reading.{StopsAt}
use Rattle.explain.specs.declared.side.Side.{Side}
use Rattle.pea_top.specs.declared.folder.NamedFile.{NamedFile}
use Rattle.pea_top.specs.declared.reading.ReadStop.{ReadStop}
use Rattle.pea_top.specs.declared.reading.ReadStop.TheVariants.{Fault, NoMemory, Malformed, Version}

-- a call of this kind failed, which raised its count, or memory ran out
abbrev pub IsCallStop : HostCall → Type 0 → ReadStop → Type 0
IsCallStop kind Raised (Fault call) = (call ≡ kind) × Raised
IsCallStop kind Raised NoMemory = Unit {0}
IsCallStop kind Raised (Malformed name at rule file) = ⊥
IsCallStop kind Raised (Version name major minor side) = ⊥

-- a class file by its name has a class, and another has none
abbrev pub IsClassOf : Bytes → Bytes → Option ClassFile → Type 0
IsClassOf name bytes (Some class) = IsTrue (names_class_file name) × ClassOf bytes class
IsClassOf name bytes None = ¬ IsTrue (names_class_file name)

-- a file of the folder with its class, not refused
pub record IsGoodFile (folder : Folder) (file : NamedFile) (class : Option ClassFile) : Type 0 where
  pub there : folder file.name ≡ Some file.bytes
  pub is_class : IsClassOf file.name file.bytes class
  pub not_refused : (why : Refusal) → ¬ IsRefused IsRefusedClass folder file.name why

-- the file of this name, or that it is refused
abbrev pub IsFileOrWhy : Folder → Bytes → Result (NamedFile × Option ClassFile) ReadStop → Type 0
IsFileOrWhy folder name (Ok (file, class)) = (file.name ≡ name) × IsGoodFile folder file class
IsFileOrWhy folder name (Err stop) =
    StopsAt (λ refused why. (refused ≡ name) × IsRefused IsRefusedClass folder name why) stop

-- why a class file is not written again: its bytes are refused for that, or memory ran out
abbrev pub IsWhyNot : Bytes → ClassFault → Type 0
IsWhyNot bytes (faults.Malformed at rule) = IsRefusedClass bytes (broken (fault at rule))
IsWhyNot bytes (faults.Version major minor) =
    IsRefusedClass bytes (other_version (record { minor = minor; major = major }))
IsWhyNot bytes faults.NoMemory = Unit {0}

-- the stop at a file of this name, which stands on this side and has these bytes
abbrev pub stop_at : Side → Bytes → Bytes → ClassFault → ReadStop
stop_at side name bytes (faults.Malformed at rule) =
    Malformed name at rule (record { side = side; bytes = bytes })
stop_at side name bytes (faults.Version major minor) = Version name major minor side
stop_at side name bytes faults.NoMemory = NoMemory

-- the header of a file of the library that is not refused
pub record IsGoodHeader (library : Folder) (name : Bytes) (header : Header) : Type 0 where
  pub bytes : Bytes
  pub there : library name ≡ Some bytes
  pub is_header : HeaderOf bytes header
  pub not_refused : (why : Refusal) → ¬ IsRefused IsRefusedHeader library name why

-- the header of the file of this name, or that it is refused
abbrev pub IsHeaderOrWhy : Folder → Bytes → Result Header ReadStop → Type 0
IsHeaderOrWhy library name (Ok header) = IsGoodHeader library name header
IsHeaderOrWhy library name (Err stop) =
    StopsAt (λ refused why. (refused ≡ name) × IsRefused IsRefusedHeader library name why) stop
