use Rattle.std.proofs.Common.{◌≡◌, length}
use Rattle.class_tree.specs.Inner.Placing.{AreBehindTargets}
use Rattle.class_tree.proofs.order.place_hinted.Given as goal

abbrev pub invariant-loop-node : goal.invariant-loop-node
invariant-loop-node l = (l.placed.size ≡ length l.graph) × AreBehindTargets l.graph l.placed.nodes
