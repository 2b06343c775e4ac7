use Rattle.std.proofs.Common.{◌≡◌, ◌-◌, length}
use Rattle.class_tree.proofs.Searched.{IsSearched}
use Rattle.class_tree.proofs.graph.reaches.Given as goal

abbrev pub invariant-loop-at : goal.invariant-loop-at
invariant-loop-at l = (l.reached.size ≡ length l.graph) × IsSearched l.graph l.from l.at l.reached.nodes

abbrev pub decreases-loop-at : goal.decreases-loop-at
decreases-loop-at l = length l.graph - l.at
