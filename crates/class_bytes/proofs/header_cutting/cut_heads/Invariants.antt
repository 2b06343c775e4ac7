use Rattle.std.proofs.Common.{◌-◌}
use Rattle.class_model.specs.Cutting.{counted_at}
use Rattle.class_bytes.specs.Inner.HeaderParts.{member_head_at}
use Rattle.class_bytes.proofs.Many.{SoFar}
use Rattle.class_bytes.proofs.header_cutting.cut_heads.Given as goal

abbrev pub invariant-loop : goal.invariant-loop
invariant-loop l = SoFar member_head_at (counted_at member_head_at l.fn.cursor) (l.count - l.counter) l.members l.cursor
