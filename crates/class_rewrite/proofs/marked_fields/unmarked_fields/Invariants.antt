use Rattle.std.proofs.Common.{take}
use Rattle.class_rewrite.proofs.marked_fields.unmarked_fields.Given as goal
use Rattle.class_rewrite.specs.Inner.Marking.{NoneMarked}

abbrev pub invariant-loop-class : goal.invariant-loop-class
invariant-loop-class l = NoneMarked (take l.class-index l.tree.folder) l.rows.items
