use Rattle.std.proofs.Common.{ℕ, List, [], ◌∷◌, map, subst}
use Rattle.std.specs.List.{AllByRecursion}
use Rattle.class_model.specs.ClassOf.{ClassOf}
use Rattle.class_model.specs.Header.{HeaderOf, header_of}
use Rattle.class_model.specs.Spelling.{class_bytes}
use Rattle.class_model.specs.declared.class_file.ClassFile.{ClassFile}
use Rattle.class_tree.specs.Headers.{IsLibraryClass}
use Rattle.work_gen.specs.BaseLibrary.{IsBaseClass}
use Rattle.work_gen.specs.Values.{base_classes}
use Rattle.work_gen.proofs.Library.{is_base_library}
use Rattle.work_gen.proofs.laws.base_headers_are_library_classes.Goals as goal

abbrev HasHeader : Type 0
HasHeader = (bytes : List ℕ) (class : ClassFile) → ClassOf bytes class → HeaderOf bytes (header_of class)

each_header : HasHeader → (classes : List ClassFile) → AllByRecursion IsBaseClass classes → AllByRecursion IsLibraryClass (map header_of classes)
each_header has [] are = tt
each_header has (class ∷ classes) are =
    (record { bytes = class_bytes class; read = has (class_bytes class) class are.0.file }, each_header has classes are.1)

pub returns : goal.returns
returns c =
    subst (AllByRecursion IsLibraryClass) is_base_library.headers
    (each_header c.a_class_file_has_a_header_and_a_pool.ensures.header base_classes is_base_library.each)
