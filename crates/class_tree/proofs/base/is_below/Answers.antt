use Rattle.std.proofs.Common.{sym, subst}
use Rattle.class_tree.specs.Inner.Graphs.{IsWithin}
use Rattle.class_tree.proofs.GraphPaths.{graph_is_within}
use Rattle.class_tree.proofs.LibraryNames.{below_decides, nothing_below, node_of_number}
use Rattle.class_tree.proofs.base.is_below.Goals as goal

pub reaches-requires-clause-within : goal.reaches-requires-clause-within
reaches-requires-clause-within c = subst IsWithin (sym c.requires.graph) (graph_is_within c.args.headers.now)

pub reaches-requires-clause-node : goal.reaches-requires-clause-node
reaches-requires-clause-node c = node_of_number c.args.headers.now c.args.graph.now c.args.name.now c.in-Some.number c.requires.graph (sym c.in-Some.ensures)

pub returns-in-Some : goal.returns-in-Some
returns-in-Some c = λ high above.
    below_decides c.args.headers.now c.args.graph.now c.args.name.now high c.in-Some.number c.args.above c.requires.graph (sym c.in-Some.ensures) above _ c.reaches.ensures

pub returns-in-None : goal.returns-in-None
returns-in-None c = λ high above. nothing_below c.args.headers.now c.args.name.now high (sym c.in-None.ensures)
