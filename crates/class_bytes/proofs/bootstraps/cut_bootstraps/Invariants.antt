use Rattle.std.proofs.Common.{◌-◌}
use Rattle.class_model.specs.Cutting.{counted_at}
use Rattle.class_model.specs.Methods.{bootstrap_at}
use Rattle.class_bytes.specs.Inner.Bootstraps.{bootstraps_of}
use Rattle.class_bytes.proofs.Many.{SoFar}
use Rattle.class_bytes.proofs.bootstraps.cut_bootstraps.Given as goal

abbrev pub invariant-loop : goal.invariant-loop
invariant-loop l = SoFar bootstrap_at (counted_at bootstrap_at l.fn.cursor) (l.count - l.counter) (bootstraps_of l.methods) l.cursor
