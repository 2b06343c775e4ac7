-- What it means that a folder is linked with its library (JVM Specification SE 8, 5.4): the declarations of all its classes
-- are asked first, and then their references.
use Rattle.std.specs.Prelude.{List, ◌++◌}
use Rattle.class_model.specs.Checks.{Check, AllHold, asked_each}
use Rattle.class_tree.specs.Headers.{Classes, headers_of}
use Rattle.class_tree.specs.Problems.{Problem}
use Rattle.member_link.specs.Declarations.{declaration_checks}
use Rattle.member_link.specs.Uses.{use_checks}

abbrev pub link_checks : Classes → List (Check Problem)
link_checks classes =
    let headers = headers_of classes in
    asked_each (declaration_checks headers) headers.folder
    ++ asked_each (use_checks headers) classes.folder

-- A linked folder. Its classes are those of a hierarchy.
abbrev pub IsLinked : Classes → Type 0
IsLinked classes = AllHold (link_checks classes)
