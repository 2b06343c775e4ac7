use Rattle.std.proofs.Common.{◌≡◌, take}
use Rattle.class_tree.specs.Inner.Nodes.{graph_of}
use Rattle.class_tree.proofs.graph.supers_graph.Given as goal

abbrev pub invariant-loop-number : goal.invariant-loop-number
invariant-loop-number l = l.graph ≡ take l.number (graph_of l.headers)
