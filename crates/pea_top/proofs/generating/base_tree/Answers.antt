use Rattle.pea_top.proofs.GeneratedTrees.{made_tree, no_problem}
use Rattle.pea_top.proofs.generating.base_tree.Goals as goal

pub build_tree-requires-clause-library : goal.build_tree-requires-clause-library
build_tree-requires-clause-library c = rw c.in_ok-library.ensures c.base_headers_are_library_classes.ensures

pub returns-in-Ok : goal.returns-in-Ok
returns-in-Ok c = made_tree c.args.folder c.in_ok-library.library _ c.in_ok-library.ensures c.requires.verify c.in-Ok.ensures.0

-- it verifies, so there is no problem
pub unreachable-requires : goal.unreachable-requires
unreachable-requires c = no_problem c.args.folder c.in_ok-library.library _ c.in_ok-library.ensures c.requires.verify (rw c.in-Err-Unlinked.field-0-is at c.in-Err-Unlinked.ensures)
