-- How far linking a folder has come, class by class.
use Rattle.std.specs.Prelude.{ℕ, List, ◌++◌, take, Result, Ok, Err}
use Rattle.class_model.specs.Checks.{Check, AllHold, asked_each}
use Rattle.class_tree.specs.Answers.{Answers}
use Rattle.class_tree.specs.Headers.{Classes, headers_of}
use Rattle.class_tree.specs.Problems.{Problem}
use Rattle.class_tree.specs.declared.fault.LinkFault.{LinkFault}
use Rattle.member_link.specs.Declarations.{declaration_checks}
use Rattle.member_link.specs.Linked.{link_checks}
use Rattle.member_link.specs.Uses.{use_checks}

-- the declarations of all classes are asked, and the references of the first so many
abbrev pub first_link_checks : Classes → ℕ → List (Check Problem)
first_link_checks classes count =
    let headers = headers_of classes in
    asked_each (declaration_checks headers) headers.folder
    ++ asked_each (use_checks headers) (take count classes.folder)

abbrev pub AreFirstLinked : Classes → ℕ → Type 0
AreFirstLinked classes count = AllHold (first_link_checks classes count)

-- what linking answers that has come so far: they are linked, or the first problem of the folder is found
abbrev pub FirstLink : Classes → ℕ → Result Unit LinkFault → Type 0
FirstLink classes count (Ok done) = AreFirstLinked classes count
FirstLink classes count (Err fault) = Answers {X = Unit {0}} (link_checks classes) (Err fault)
