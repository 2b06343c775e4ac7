-- What words and files answer.
use Rattle.std.specs.Prelude.{◌≡◌, ℕ, List, [], Option, Some, None, IsTrue}
use Rattle.class_model.specs.Checks.{Fault, fault}
use Rattle.class_model.specs.ClassOf.{ClassOf, FirstFault, IsOtherVersion}
use Rattle.class_model.specs.Cutting as cutting
use Rattle.class_model.specs.Header.{FirstHeaderFault, HeaderOf, IsNoLibraryVersion}
use Rattle.class_model.specs.declared.class_file.ClassFile.{ClassFile}
use Rattle.class_model.specs.declared.header.Header.{Header}
use Rattle.class_tree.specs.Problems.{Problem}
use Rattle.host_tree.specs.Host.{Bytes, Folder, Files}
use Rattle.host_tree.specs.declared.call.HostCall.TheVariants as calls
use Rattle.machine_values.specs.declared.action.Action.{Action}
use Rattle.script_text.specs.Scripts.{IsFirstOutside, IsScript, lines_of}
use Rattle.verify_folder.specs.Verifying.{Failure}
use Rattle.pea_top.specs.Words.{Word, Task, Run, Both, Command, OnFolder, Listing, Generated, Spells, IsUsage}
use Rattle.pea_top.specs.Folders.{IsBytesBefore, names_class_file, HasClassFiles}
use Rattle.pea_top.specs.Linking.{IsLinkProblem}
use Rattle.pea_top.specs.Status.{Ending, completed, refused, failed, out_of_memory, ending}
use Rattle.pea_top.specs.Verifying.{AreVerified, IsTypeFailure}
use Rattle.pea_top.specs.declared.status.Status.{Status}
use Rattle.pea_top.specs.declared.status.Status.TheVariants.{Done, Usage, Malformed, Version, Unlinked, Unverified, BadScript, Absent, HostFault, NoMemory}

-- ---- refused files

-- why the bytes of a class file are refused: they break a rule at a place, or are of a version that is not read
pub data Refusal : Type 0 where
  broken : Fault → Refusal
  other_version : cutting.Version → Refusal

-- the bytes of a class file of the input are refused for this: it is their first fault, or their version
abbrev pub IsRefusedClass : Bytes → Refusal → Type 0
IsRefusedClass bytes (broken fault) = FirstFault bytes fault
IsRefusedClass bytes (other_version version) = IsOtherVersion bytes version

-- the same of the library, whose class files are read as headers
abbrev pub IsRefusedHeader : Bytes → Refusal → Type 0
IsRefusedHeader bytes (broken fault) = FirstHeaderFault bytes fault
IsRefusedHeader bytes (other_version version) = IsNoLibraryVersion bytes version

-- a file of the folder that is refused: its name is that of a class file, and its bytes are refused for this
pub record IsRefused (Refused : Bytes → Refusal → Type 0) (folder : Folder) (name : Bytes)
    (why : Refusal)
    : Type 0 where
  pub named : IsTrue (names_class_file name)
  pub bytes : Bytes
  pub there : folder name ≡ Some bytes
  pub refused : Refused bytes why

-- no file of the folder is refused
abbrev pub NoneRefused : (Bytes → Refusal → Type 0) → Folder → Type 0
NoneRefused Refused folder = (name : Bytes) (why : Refusal) → ¬ IsRefused Refused folder name why

-- the first of them in byte order, whatever the others are refused for
pub record IsFirstRefused (Refused : Bytes → Refusal → Type 0) (folder : Folder) (name : Bytes)
    (why : Refusal)
    : Type 0 where
  pub refused : IsRefused Refused folder name why
  pub none_before :
      (other : Bytes)
      → IsBytesBefore other name
      → (other_why : Refusal)
      → ¬ IsRefused Refused folder other other_why

-- The first refused file: one of the input, or where none of the input is refused one of the library.
pub data IsFirstOf (input library : Folder) (name : Bytes) (why : Refusal) : Type 0 where
  of_input : IsFirstRefused IsRefusedClass input name why → IsFirstOf input library name why
  of_library :
      NoneRefused IsRefusedClass input → IsFirstRefused IsRefusedHeader library name why
      → IsFirstOf input library name why

-- ---- what is read

-- the class files of the input and the headers of the library, of which no file is refused
pub record AreRead (input library : Folder) (classes : List ClassFile) (headers : List Header)
    : Type 0 where
  pub classes_read : HasClassFiles ClassOf input classes
  pub headers_read : HasClassFiles HeaderOf library headers

-- ---- scripts

-- the file of this name, under the root without a name, is a script of these actions
pub record IsScriptThere (files : Files) (name : Bytes) (actions : List Action) : Type 0 where
  pub bytes : Bytes
  pub there : files [] name ≡ Some bytes
  pub is_script : IsScript bytes actions

-- the script of a task, if it has one
abbrev pub script_of : Task → Option Word
script_of (Run script steps) = Some script
script_of (Both script steps) = Some script
script_of task = None

-- the script is there, if the task has one
abbrev pub HasNamed : Option Word → Files → Type 0
HasNamed None files = Unit {0}
HasNamed (Some script) files = (actions : List Action) × IsScriptThere files script actions

abbrev pub HasScript : Task → Files → Type 0
HasScript task files = HasNamed (script_of task) files

-- ---- what is answered of a folder

-- What is to be done with the folder can be done: no file of it or of the library is refused, the script is one, and the class files of the
-- folder are linked with those of the library and verified.
pub record CanDoTask (input library : Word) (task : Task) (files : Files) : Type 0 where
  pub classes : List ClassFile
  pub headers : List Header
  pub read : AreRead (files input) (files library) classes headers
  pub script : HasScript task files
  pub verified : AreVerified classes headers

-- the files are read, and the script is not there
pub record LacksScript (input library : Word) (task : Task) (files : Files) (name : Bytes)
    : Type 0 where
  pub classes : List ClassFile
  pub headers : List Header
  pub read : AreRead (files input) (files library) classes headers
  pub named : script_of task ≡ Some name
  pub absent : files [] name ≡ None

-- the files are read, and this is the first line of the script outside the grammar
pub record HasBadScript (input library : Word) (task : Task) (files : Files) (line : ℕ)
    : Type 0 where
  pub classes : List ClassFile
  pub headers : List Header
  pub read : AreRead (files input) (files library) classes headers
  pub script : Word
  pub named : script_of task ≡ Some script
  pub bytes : Bytes
  pub there : files [] script ≡ Some bytes
  pub outside : IsFirstOutside (lines_of bytes) line

-- the files are read, the script too, and this is the first problem of linking them
pub record CannotLink (input library : Word) (task : Task) (files : Files) (problem : Problem)
    : Type 0 where
  pub classes : List ClassFile
  pub headers : List Header
  pub read : AreRead (files input) (files library) classes headers
  pub script : HasScript task files
  pub first : IsLinkProblem classes headers problem

-- the files are read, the script too, and linked, and this is where the folder fails first
pub record CannotVerify (input library : Word) (task : Task) (files : Files) (failure : Failure)
    : Type 0 where
  pub classes : List ClassFile
  pub headers : List Header
  pub read : AreRead (files input) (files library) classes headers
  pub script : HasScript task files
  pub first : IsTypeFailure classes headers failure

-- the answer that a folder with its library determines
abbrev pub IsTaskAnswer : Word → Word → Task → Files → Status → Type 0
IsTaskAnswer input library task files Done = CanDoTask input library task files
IsTaskAnswer input library task files Usage = ⊥
IsTaskAnswer input library task files (Malformed name at rule) =
    IsFirstOf (files input) (files library) name (broken (fault at rule))
IsTaskAnswer input library task files (Version name major minor) =
    IsFirstOf (files input) (files library) name
    (other_version (record { minor = minor; major = major }))
IsTaskAnswer input library task files (Unlinked class member rule) =
    CannotLink input library task files
    (record { class = class; member = member; rule = rule })
IsTaskAnswer input library task files (Unverified class method offset rule) =
    CannotVerify input library task files
    (record { class = class; method = method; offset = offset; rule = rule })
IsTaskAnswer input library task files (BadScript line) =
    HasBadScript input library task files line
IsTaskAnswer input library task files (Absent name) = LacksScript input library task files name
IsTaskAnswer input library task files (HostFault call) = ⊥
IsTaskAnswer input library task files NoMemory = ⊥

-- ---- what is answered of one file

-- the file of this name is read as a class file
pub record IsClassThere (folder : Folder) (name : Bytes) : Type 0 where
  pub bytes : Bytes
  pub there : folder name ≡ Some bytes
  pub class : ClassFile
  pub is_class : ClassOf bytes class

-- the file of this name is refused for this, and is the one that is told
pub record IsRefusedThere (folder : Folder) (name told : Bytes) (why : Refusal) : Type 0 where
  pub same : told ≡ name
  pub bytes : Bytes
  pub there : folder name ≡ Some bytes
  pub refused : IsRefusedClass bytes why

-- there is no file of this name, which is the one that is told
pub record IsAbsentThere (folder : Folder) (name told : Bytes) : Type 0 where
  pub same : told ≡ name
  pub absent : folder name ≡ None

-- The answer that one file of a folder determines. It is read alone, and need not have the name of a class file.
abbrev pub IsFileAnswer : Folder → Bytes → Status → Type 0
IsFileAnswer folder name Done = IsClassThere folder name
IsFileAnswer folder name (Malformed told at rule) =
    IsRefusedThere folder name told (broken (fault at rule))
IsFileAnswer folder name (Version told major minor) =
    IsRefusedThere folder name told (other_version (record { minor = minor; major = major }))
IsFileAnswer folder name (Absent told) = IsAbsentThere folder name told
IsFileAnswer folder name status = ⊥

-- ---- what is answered of generated work

-- it reads no file, and can always be made
abbrev pub IsGeneratedAnswer : Status → Type 0
IsGeneratedAnswer status = status ≡ Done

-- ---- the answer

-- that of a command
abbrev pub IsCommandAnswer : Command → Files → Status → Type 0
IsCommandAnswer (OnFolder input library task) files status =
    IsTaskAnswer input library task files status
IsCommandAnswer (Listing input name) files status = IsFileAnswer (files input) name status
IsCommandAnswer (Generated number size) files status = IsGeneratedAnswer status

-- the words spell a command with this answer
pub record HasAnswer (words : List Word) (files : Files) (status : Status) : Type 0 where
  pub command : Command
  pub spelled : Spells command words
  pub is : IsCommandAnswer command files status

-- the words spell a command that can be done
abbrev pub CanDo : List Word → Files → Type 0
CanDo words files = HasAnswer words files Done

-- The answer that words and files determine. A fault of the host and want of memory are no such answer.
abbrev pub IsAnswer : List Word → Files → Status → Type 0
IsAnswer words files Usage = IsUsage words
IsAnswer words files status = HasAnswer words files status

-- The cause of an ending, where that of a refusal is given. A failed write or print comes only where all was decided and the
-- command can be done.
abbrev pub CauseOf : List Word → Files → Type 0 → Ending → Type 0
CauseOf words files Refuses completed = CanDo words files
CauseOf words files Refuses (refused refusal) = Refuses
CauseOf words files Refuses (failed calls.List) = Unit {0}
CauseOf words files Refuses (failed calls.Read) = Unit {0}
CauseOf words files Refuses (failed calls.Write) = CanDo words files
CauseOf words files Refuses (failed calls.Print) = CanDo words files
CauseOf words files Refuses out_of_memory = Unit {0}

-- a status and its cause
abbrev pub HasCause : List Word → Files → Status → Type 0
HasCause words files status = CauseOf words files (IsAnswer words files status) (ending status)
