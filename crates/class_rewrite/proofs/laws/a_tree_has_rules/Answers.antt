use Rattle.class_rewrite.proofs.GivenConstructors.{descriptors_given}
use Rattle.class_rewrite.proofs.laws.a_tree_has_rules.Goals as goal

pub returns : goal.returns
returns c = record {
  tree = c.folder-folder.ensures.tree;
  links = c.a_tree_has_links.ensures.0;
  are_links = c.a_tree_has_links.ensures.1;
  constructor = (descriptors_given c.args.tree.now).0;
  gives = (descriptors_given c.args.tree.now).1;
}
