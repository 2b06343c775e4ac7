-- The written folder is the hierarchy that its classes and the library are.
use Rattle.std.proofs.Common.{◌∙◌}
use Rattle.pea_top.proofs.OneLinkProblem.{TreeLaws}
use Rattle.pea_top.proofs.WrittenTrees.{one_tree, no_problem}
use Rattle.pea_top.proofs.both.written_tree.Goals as goal

pub returns-in-Ok : goal.returns-in-Ok
returns-in-Ok c =
    let laws : TreeLaws = record { problem = c.a_folder_is_told_once.ensures.problem; arranged = c.a_folder_is_told_once.ensures.arranged } in
    one_tree laws c.args.tree.now c.args.classes c.in_ok-library.library c.in-Ok.written (c.in_ok-library.ensures ∙ c.as_slice.ensures ∙ c.library.ensures.same) c.requires c.in-Ok.ensures.0

pub unreachable-requires : goal.unreachable-requires
unreachable-requires c =
    let laws : TreeLaws = record { problem = c.a_folder_is_told_once.ensures.problem; arranged = c.a_folder_is_told_once.ensures.arranged } in
    no_problem laws c.args.tree.now c.args.classes c.in_ok-library.library _ (c.in_ok-library.ensures ∙ c.as_slice.ensures ∙ c.library.ensures.same) c.requires (rw c.in-Err-Unlinked.field-0-is at c.in-Err-Unlinked.ensures)
