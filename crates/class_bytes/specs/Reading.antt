-- What reading a class file answers, and what reading a header of one.
use Rattle.std.specs.Prelude.{List, ℕ, Result, Ok, Err}
use Rattle.class_model.specs.Checks.{fault}
use Rattle.class_model.specs.ClassOf.{ClassOf, FirstFault, IsOtherVersion}
use Rattle.class_model.specs.Header.{FirstHeaderFault, HeaderOf, IsNoLibraryVersion}
use Rattle.class_model.specs.declared.class_file.ClassFile.{ClassFile}
use Rattle.class_model.specs.declared.header.Header.{Header}
use Rattle.class_model.specs.declared.fault.ClassFault.{ClassFault}
use Rattle.class_model.specs.declared.fault.ClassFault.TheVariants.{Malformed, Version, NoMemory}

-- the class file that the bytes are, their first fault, their version that is not read, or want of memory
abbrev pub IsReadOf : List ℕ → Result ClassFile ClassFault → Type 0
IsReadOf bytes (Ok class) = ClassOf bytes class
IsReadOf bytes (Err (Malformed at rule)) = FirstFault bytes (fault at rule)
IsReadOf bytes (Err (Version major minor)) =
    IsOtherVersion bytes (record { minor = minor; major = major })
IsReadOf bytes (Err NoMemory) = Unit {0}

-- the header that the bytes have, their first fault, their version that is not read, or want of memory
abbrev pub IsHeaderReadOf : List ℕ → Result Header ClassFault → Type 0
IsHeaderReadOf bytes (Ok header) = HeaderOf bytes header
IsHeaderReadOf bytes (Err (Malformed at rule)) = FirstHeaderFault bytes (fault at rule)
IsHeaderReadOf bytes (Err (Version major minor)) =
    IsNoLibraryVersion bytes (record { minor = minor; major = major })
IsHeaderReadOf bytes (Err NoMemory) = Unit {0}
