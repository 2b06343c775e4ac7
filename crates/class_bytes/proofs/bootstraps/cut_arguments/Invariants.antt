use Rattle.std.proofs.Common.{◌-◌}
use Rattle.class_model.specs.Cutting.{u2_at, counted_at}
use Rattle.class_bytes.proofs.Many.{SoFar}
use Rattle.class_bytes.proofs.bootstraps.cut_arguments.Given as goal

abbrev pub invariant-loop : goal.invariant-loop
invariant-loop l = SoFar u2_at (counted_at u2_at l.fn.cursor) (l.count - l.counter) l.arguments l.cursor
