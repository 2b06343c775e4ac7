use Rattle.std.proofs.Common.{◌-◌}
use Rattle.class_model.specs.Code.{handler_at}
use Rattle.class_model.specs.Cutting.{counted_at}
use Rattle.class_bytes.proofs.Many.{SoFar}
use Rattle.class_bytes.proofs.code_cutting.cut_handlers.Given as goal

abbrev pub invariant-loop : goal.invariant-loop
invariant-loop l = SoFar handler_at (counted_at handler_at l.fn.cursor) (l.count - l.counter) l.handlers l.cursor
