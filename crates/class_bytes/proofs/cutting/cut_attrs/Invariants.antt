use Rattle.std.proofs.Common.{◌-◌}
use Rattle.class_model.specs.Code.{inner_at}
use Rattle.class_model.specs.Cutting.{attr_at, counted_at}
use Rattle.class_bytes.specs.Inner.Cut.{attrs_of, inners_of}
use Rattle.class_bytes.proofs.Many.{SoFar}
use Rattle.class_bytes.proofs.cutting.cut_attrs.Given as goal

abbrev pub invariant-loop : goal.invariant-loop
invariant-loop l =
    SoFar attr_at (counted_at attr_at l.fn.cursor) (l.count - l.counter) (attrs_of l.attrs) l.cursor
    × SoFar inner_at (counted_at inner_at l.fn.cursor) (l.count - l.counter) (inners_of l.attrs) l.cursor
