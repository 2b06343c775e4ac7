use Rattle.class_tree.proofs.laws.a_tree_is_a_hierarchy.Goals as goal

pub returns : goal.returns
returns c = c.classes_of_a_tree_are_a_hierarchy.ensures _ c.folder.ensures.tree
