use Rattle.std.proofs.Common.{◌≡◌, take}
use Rattle.class_tree.specs.Inner.Placing.{HasAdded}
use Rattle.class_tree.proofs.graph.NodeSet.add_all.Given as goal

abbrev pub invariant-loop-node : goal.invariant-loop-node
invariant-loop-node l = (l.self.size ≡ l.fn.self.size) × HasAdded l.fn.self.nodes l.self.nodes (take l.node-index l.nodes)
