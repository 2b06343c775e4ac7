use Rattle.std.proofs.Common.{take}
use Rattle.class_rewrite.proofs.marked_fields.mark_fields.Given as goal
use Rattle.class_rewrite.specs.Inner.Marking.{IsListed, MarksFields}

abbrev pub invariant-loop-place : goal.invariant-loop-place
invariant-loop-place l = MarksFields (IsListed (take l.place l.fields)) l.fn.rows.items l.rows.items
