use Rattle.code_drafts.proofs.CellLaws.{Counts}
use Rattle.code_drafts.proofs.stack_cells.counted_among.Given as goal
use Rattle.plan_flow.specs.Written.Templates.{cells}

abbrev pub invariant-loop-left : goal.invariant-loop-left
invariant-loop-left l = Counts (cells l.types l.state) l.units l.first l.plain l.left l.next

abbrev pub decreases-loop-left : goal.decreases-loop-left
decreases-loop-left l = l.left
