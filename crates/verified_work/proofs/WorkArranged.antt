-- Generated work and its library are arranged in one way.
use Rattle.std.proofs.Common.{◌≡◌, List}
use Rattle.std.proofs.lemmas.List.Sorted.{IsPermutation-refl}
use Rattle.class_model.specs.declared.class_file.ClassFile.{ClassFile}
use Rattle.class_model.specs.declared.header.Header.{Header}
use Rattle.class_tree.specs.Headers.{Classes, headers_of}
use Rattle.class_tree.specs.Trees.{IsArranged, IsInOrder}
use Rattle.work_gen.specs.BaseLibrary.{base_headers}
use Rattle.work_gen.specs.Generated.{generated_folder}
use Rattle.work_gen.specs.declared.choices.Choice.{Choice}
use Rattle.verified_work.proofs.WorkOrder.{are_in_order, folder_sorted, library_same, library_sorted}
use Rattle.verified_work.proofs.WorkSteps.{classes_of, methods_of}

abbrev ArrangedOnce : Type 0
ArrangedOnce = (folder : List ClassFile) (library : List Header) (one other : Classes) → IsArranged folder library one → IsInOrder (headers_of one) → IsArranged folder library other → one ≡ other

pub in_order : (chosen : List Choice) → IsArranged (generated_folder chosen) base_headers (classes_of chosen)
in_order chosen = record {
  folder_same = IsPermutation-refl (generated_folder chosen);
  library_same = library_same;
  folder_sorted = folder_sorted (methods_of chosen);
  library_sorted = library_sorted;
}

pub are_arranged : ArrangedOnce → (chosen : List Choice) (classes : Classes) → IsArranged (generated_folder chosen) base_headers classes → classes_of chosen ≡ classes
are_arranged once chosen classes arranged =
    once (generated_folder chosen) base_headers (classes_of chosen) classes (in_order chosen) (are_in_order (methods_of chosen)) arranged
