-- What verifying the class files of a folder, linked with the headers of a library, answers.
use Rattle.std.specs.Prelude.{List}
use Rattle.class_model.specs.declared.class_file.ClassFile.{ClassFile}
use Rattle.class_model.specs.declared.header.Header.{Header}
use Rattle.class_tree.specs.Headers.{Classes, headers_of}
use Rattle.class_tree.specs.Trees.{IsArranged, IsTree}
use Rattle.member_link.specs.Linked.{IsLinked}
use Rattle.type_rules.specs.Verified.{IsVerified}
use Rattle.verify_folder.specs.Verifying.{Failure, ClassesFail}

-- arranged, they are a folder that verifies
pub record AreVerified (folder : List ClassFile) (library : List Header) : Type 0 where
  pub classes : Classes
  pub arranged : IsArranged folder library classes
  pub verified : IsVerified classes

-- they are a hierarchy that is linked, and the folder fails first in this
pub record IsTypeFailure (folder : List ClassFile) (library : List Header) (failure : Failure)
    : Type 0 where
  pub classes : Classes
  pub arranged : IsArranged folder library classes
  pub tree : IsTree classes
  pub linked : IsLinked classes
  pub fails : ClassesFail (headers_of classes) classes.folder failure
