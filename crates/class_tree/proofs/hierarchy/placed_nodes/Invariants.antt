use Rattle.std.proofs.Common.{◌≡◌, ℕ, true, false, length, get_or}
use Rattle.class_tree.specs.Inner.Graphs.{IsOneOf}
use Rattle.class_tree.proofs.hierarchy.placed_nodes.Given as goal

abbrev pub invariant-loop-node : goal.invariant-loop-node
invariant-loop-node l =
    (length l.placed.items ≡ l.len) × ((node : ℕ) → get_or l.placed.items node false ≡ true → IsOneOf l.order node)
