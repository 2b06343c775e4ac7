use Rattle.code_drafts.proofs.CellLaws.{popped_from}
use Rattle.code_drafts.proofs.stack_cells.pop_entries.Given as goal
use Rattle.code_drafts.specs.Puts.{PutsRest}
use Rattle.flow_code.specs.FlatCode.{FlatCode}
use Rattle.plan_flow.specs.Written.Templates.{cells}

abbrev pub invariant-loop-number : goal.invariant-loop-number
invariant-loop-number l =
    (flat : FlatCode)
    → PutsRest flat l.fn.kept (popped_from (cells l.types l.state) l.count 0) l.kept (popped_from (cells l.types l.state) l.count l.number)
