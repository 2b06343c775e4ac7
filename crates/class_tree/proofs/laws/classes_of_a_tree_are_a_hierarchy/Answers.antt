use Rattle.class_tree.proofs.HierarchyLaws.{classes_are_hierarchy}
use Rattle.class_tree.proofs.laws.classes_of_a_tree_are_a_hierarchy.Goals as goal

pub returns : goal.returns
returns c = classes_are_hierarchy
