use Rattle.std.proofs.Common.{◌-◌}
use Rattle.class_model.specs.Cutting.{field_at, method_at, counted_at}
use Rattle.class_bytes.specs.Inner.Cut.{fields_of, methods_of}
use Rattle.class_bytes.proofs.Many.{SoFar}
use Rattle.class_bytes.proofs.cutting.cut_members.Given as goal

abbrev pub invariant-loop : goal.invariant-loop
invariant-loop l =
    SoFar field_at (counted_at field_at l.fn.cursor) (l.count - l.counter) (fields_of l.members) l.cursor
    × SoFar method_at (counted_at method_at l.fn.cursor) (l.count - l.counter) (methods_of l.members) l.cursor
