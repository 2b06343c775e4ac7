-- Headers by name are those of a program.
use Rattle.std.proofs.Common.{◌≡◌, ap, sym}
use Rattle.class_tree.specs.Headers.{Name, Classes, Headers, class_named, headers_of}
use Rattle.member_link.specs.Machine.Programs.{Program, header_named}
use Rattle.member_link.specs.TreePrograms.{IsProgram}
use Rattle.member_link.specs.Laws.ProgramHeaders.{headers_are}

pub header_is :
    (classes : Classes) (P : Program)
    → IsProgram classes P
    → (name : Name)
    → class_named (headers_of classes) name ≡ header_named P name
header_is classes P is name = ap (λ (headers : Headers). class_named headers name) (sym (headers_are classes P is))
