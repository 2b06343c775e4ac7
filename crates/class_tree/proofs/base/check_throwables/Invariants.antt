use Rattle.std.proofs.Common.{drop}
use Rattle.class_model.specs.Checks.{asked_each}
use Rattle.class_model.specs.Laws.Checks.{Remain}
use Rattle.class_tree.specs.Names.{machine_throwables}
use Rattle.class_tree.proofs.BaseChecks.{throwable_check}
use Rattle.class_tree.proofs.base.check_throwables.Given as goal

abbrev pub invariant-loop-name : goal.invariant-loop-name
invariant-loop-name l =
    Remain (asked_each (throwable_check l.headers) machine_throwables) (asked_each (λ name. throwable_check l.headers name.now) (drop l.name-index l.name-items))
