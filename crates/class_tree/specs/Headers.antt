-- The classes of a folder and of its library by name (JVM Specification SE 8, 5.3), each seen as its header.
use Rattle.std.specs.Prelude.{ℕ, List, [], ◌∷◌, ◌++◌, map, bytes_eq, Option, Some, None, IsSome, if◌then◌else◌}
use Rattle.class_model.specs.ClassOf.{ClassOf}
use Rattle.class_model.specs.Header.{header_of, HeaderOf}
use Rattle.class_model.specs.Spelling.{class_bytes}
use Rattle.class_model.specs.declared.class_file.ClassFile.{ClassFile}
use Rattle.class_model.specs.declared.header.Header.{Header}

-- the name of a class
abbrev pub Name : Type 0
Name = List ℕ

-- the class files of a folder, and the headers of its library
pub record Classes : Type 0 where
  pub folder : List ClassFile
  pub library : List Header

-- the headers of both
pub record Headers : Type 0 where
  pub folder : List Header
  pub library : List Header

abbrev pub headers_of : Classes → Headers
headers_of classes = record { folder = map header_of classes.folder; library = classes.library }

-- the headers of the folder, and behind them those of the library
abbrev pub all_headers : Headers → List Header
all_headers headers = headers.folder ++ headers.library

-- the class of a name among these
abbrev pub named : Name → List Header → Option Header
named name [] = None
named name (header ∷ headers) =
    if bytes_eq name header.name then Some header
    else named name headers

-- the class of a name, in the folder or in the library
abbrev pub class_named : Headers → Name → Option Header
class_named headers name = named name (all_headers headers)

-- a class of this name is there
abbrev pub IsThere : Headers → Name → Type 0
IsThere headers name = IsSome (class_named headers name)

-- the class is one that is read of a folder, and of a library
abbrev pub IsClassFile : ClassFile → Type 0
IsClassFile class = ClassOf (class_bytes class) class

pub record IsLibraryClass (header : Header) : Type 0 where
  pub bytes : List ℕ
  pub read : HeaderOf bytes header
