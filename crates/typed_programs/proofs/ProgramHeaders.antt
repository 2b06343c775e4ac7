-- The program of a folder has the headers of its classes.
use Rattle.std.specs.Prelude.{◌≡◌, refl, List, [], ◌∷◌, map}
use Rattle.std.proofs.Common.{ap}
use Rattle.class_model.specs.Header.{header_of}
use Rattle.class_model.specs.declared.class_file.ClassFile.{ClassFile}
use Rattle.class_model.specs.declared.header.Header.{Header}
use Rattle.class_tree.specs.Headers.{Classes, Headers, headers_of}
use Rattle.member_link.specs.Machine.Classes.{program_of, run_class_of}
use Rattle.member_link.specs.Machine.Programs.{Links, RunClass, headers_in}

folder_headers : (links : Links) (headers : Headers) (folder : List ClassFile)
    → map (λ (class : RunClass). class.header) (map (run_class_of links headers) folder) ≡ map header_of folder
folder_headers links headers [] = refl
folder_headers links headers (class ∷ folder) = ap (λ (rest : List Header). header_of class ∷ rest) (folder_headers links headers folder)

pub headers_are : (classes : Classes) (links : Links) → headers_in (program_of classes links) ≡ headers_of classes
headers_are classes links =
    ap (λ (folder : List Header). let headers : Headers = record { folder = folder; library = classes.library } in headers)
    (folder_headers links (headers_of classes) classes.folder)
