use Rattle.std.proofs.Common.{◌-◌}
use Rattle.class_model.specs.Cutting.{attr_at, counted_at}
use Rattle.class_bytes.proofs.Skipping.{Skipped}
use Rattle.class_bytes.proofs.header_cutting.skip_attrs.Given as goal

abbrev pub invariant-loop : goal.invariant-loop
invariant-loop l = Skipped (counted_at attr_at l.fn.cursor) l.before (l.count - l.counter) l.cursor
