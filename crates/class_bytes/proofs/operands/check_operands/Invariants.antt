use Rattle.std.proofs.Common.{drop}
use Rattle.class_model.specs.Code.{operand_checks}
use Rattle.class_model.specs.Laws.Checks.{Remain}
use Rattle.class_bytes.proofs.operands.check_operands.Given as goal

abbrev pub invariant-loop-placed : goal.invariant-loop-placed
invariant-loop-placed l =
    Remain (operand_checks l.start l.home.pool.now l.home.major l.max_locals l.code) (operand_checks l.start l.home.pool.now l.home.major l.max_locals (drop l.placed-index l.code))
