use Rattle.std.proofs.Common.{length}
use Rattle.class_tree.specs.Subtype.{AreComponents}
use Rattle.class_tree.proofs.subtype.innermost.Given as goal

abbrev pub invariant-loop-low_component : goal.invariant-loop-low_component
invariant-loop-low_component l = AreComponents l.fn.low l.fn.high l.low l.high

abbrev pub decreases-loop-low_component : goal.decreases-loop-low_component
decreases-loop-low_component l = length l.low
