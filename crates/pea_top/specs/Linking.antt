-- What linking the class files of a folder with the headers of a library answers.
use Rattle.std.specs.Prelude.{List}
use Rattle.class_model.specs.Checks.{IsFirstFault}
use Rattle.class_model.specs.declared.class_file.ClassFile.{ClassFile}
use Rattle.class_model.specs.declared.header.Header.{Header}
use Rattle.class_tree.specs.Headers.{Classes}
use Rattle.class_tree.specs.Problems.{Problem}
use Rattle.class_tree.specs.Trees.{IsArranged, IsTree, IsProblem}
use Rattle.member_link.specs.Linked.{link_checks}

-- the first problem: they are no hierarchy, or one that is not linked
pub data IsLinkProblem (folder : List ClassFile) (library : List Header) (problem : Problem)
    : Type 0 where
  of_hierarchy : IsProblem folder library problem → IsLinkProblem folder library problem
  of_links :
      (classes : Classes)
      → IsArranged folder library classes
      → IsTree classes
      → IsFirstFault (link_checks classes) problem
      → IsLinkProblem folder library problem
