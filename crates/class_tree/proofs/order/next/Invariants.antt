use Rattle.std.proofs.Common.{ℕ, ◌<◌}
use Rattle.class_tree.specs.Inner.Placing.{CannotFollow}
use Rattle.class_tree.proofs.order.next.Given as goal

abbrev pub invariant-loop-node : goal.invariant-loop-node
invariant-loop-node l = (node : ℕ) → node < l.node → CannotFollow l.graph l.placed.nodes node
