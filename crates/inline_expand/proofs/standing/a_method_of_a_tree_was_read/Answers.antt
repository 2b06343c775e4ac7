use Rattle.inline_expand.proofs.ReadMethods.{method_was_read}
use Rattle.inline_expand.proofs.standing.a_method_of_a_tree_was_read.Goals as goal

pub returns : goal.returns
returns c = λ at s is. method_was_read c.args.tree.now c.folder.ensures.tree.folder c.a_class_file_has_read_methods.ensures.methods at s is
