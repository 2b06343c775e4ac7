-- Generated work and its library are a tree.
use Rattle.std.proofs.Common.{List}
use Rattle.std.specs.List.{AllByRecursion}
use Rattle.class_tree.specs.Headers.{IsClassFile, IsLibraryClass}
use Rattle.class_tree.specs.Trees.{IsTree}
use Rattle.work_gen.specs.BaseLibrary.{base_headers}
use Rattle.work_gen.specs.Generated.{generated_folder}
use Rattle.work_gen.specs.declared.choices.Choice.{Choice}
use Rattle.verified_work.proofs.WorkHeaders.{library}
use Rattle.verified_work.proofs.WorkOrder.{are_in_order}
use Rattle.verified_work.proofs.WorkSteps.{classes_of, methods_of, steps_hold}

-- the classes of the library in byte order of their names
in_order : AllByRecursion IsLibraryClass base_headers → AllByRecursion IsLibraryClass library
in_order are =
    (are.1.1.1.1.1.1.1.0, (are.1.1.0, (are.1.1.1.1.1.1.1.1.1.0, (are.1.1.1.1.1.1.1.1.1.1.0, (are.1.1.1.1.1.1.1.1.1.1.1.0, (are.1.1.1.1.1.1.1.1.1.1.1.1.0, (are.1.1.1.1.0, (are.1.1.1.1.1.1.1.1.1.1.1.1.1.0, (are.1.0, (are.1.1.1.1.1.1.1.1.1.1.1.1.1.1.0, (are.1.1.1.1.1.1.1.1.1.1.1.1.1.1.1.0, (are.1.1.1.1.1.1.1.1.1.1.1.1.1.1.1.1.0, (are.1.1.1.1.1.1.1.1.1.1.1.1.1.1.1.1.1.0, (are.1.1.1.1.1.1.1.1.1.1.1.1.1.1.1.1.1.1.0, (are.0, (are.1.1.1.0, (are.1.1.1.1.1.1.1.1.0, (are.1.1.1.1.1.0, (are.1.1.1.1.1.1.0, tt)))))))))))))))))))

pub is_tree : (chosen : List Choice) → AllByRecursion IsClassFile (generated_folder chosen) → AllByRecursion IsLibraryClass base_headers → IsTree (classes_of chosen)
is_tree chosen files are = record {
  folder = files;
  library = in_order are;
  in_order = are_in_order (methods_of chosen);
  holds = steps_hold chosen;
}
