-- A written folder with the library of the folder that was read is one hierarchy.
use Rattle.std.proofs.Common.{◌≡◌, List, sym, subst}
use Rattle.std.proofs.lemmas.List.Sorted.{IsPermutation-refl}
use Rattle.class_model.specs.declared.class_file.ClassFile.{ClassFile}
use Rattle.class_model.specs.declared.header.Header.{Header}
use Rattle.class_rewrite.specs.Optimised.{with_folder}
use Rattle.class_tree.specs.Headers.{Classes}
use Rattle.class_tree.specs.Problems.{Problem}
use Rattle.class_tree.specs.Trees.{IsArranged, IsProblem, IsTree}
use Rattle.pea_top.proofs.OneLinkProblem.{TreeLaws, tree_no_problem}

arranged_itself : (classes : Classes) → IsTree classes → IsArranged classes.folder classes.library classes
arranged_itself classes tree = record {
  folder_same = IsPermutation-refl classes.folder;
  library_same = IsPermutation-refl classes.library;
  folder_sorted = tree.in_order.folder;
  library_sorted = tree.in_order.library;
}

module _ (laws : TreeLaws) (classes : Classes) (written : List ClassFile) (library : List Header) where
  pub one_tree : (other : Classes) → library ≡ classes.library → IsTree (with_folder classes written) → IsArranged written library other → other ≡ with_folder classes written
  one_tree other same tree arranged =
      sym (laws.arranged written classes.library (with_folder classes written) other (arranged_itself (with_folder classes written) tree) tree.in_order (subst (λ (headers : List Header). IsArranged written headers other) same arranged))

  pub no_problem : (problem : Problem) → library ≡ classes.library → IsTree (with_folder classes written) → ¬ IsProblem written library problem
  no_problem problem same tree is =
      tree_no_problem laws written classes.library (with_folder classes written) problem (arranged_itself (with_folder classes written) tree) tree (subst (λ (headers : List Header). IsProblem written headers problem) same is)
