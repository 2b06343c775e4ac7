use Rattle.std.proofs.Common.{◌≡◌}
use Rattle.class_bytes.proofs.known_shapes.KnownShapes.of.Given as goal

abbrev pub invariant-loop-index : goal.invariant-loop-index
invariant-loop-index l = l.known ≡ l.pool
