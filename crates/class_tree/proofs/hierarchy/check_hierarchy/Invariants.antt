use Rattle.class_model.specs.Laws.Checks.{Remain}
use Rattle.class_tree.specs.Steps.{hierarchy_checks}
use Rattle.class_tree.proofs.HierarchyChecks.{checks_from}
use Rattle.class_tree.proofs.hierarchy.check_hierarchy.Given as goal

abbrev pub invariant-loop-number : goal.invariant-loop-number
invariant-loop-number l = Remain (hierarchy_checks l.headers) (checks_from l.headers l.number)
