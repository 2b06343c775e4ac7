use Rattle.std.proofs.Common.{drop}
use Rattle.class_model.specs.Checks.{asked_each}
use Rattle.class_model.specs.Laws.Checks.{Remain}
use Rattle.class_tree.specs.Names.{base_names}
use Rattle.class_tree.proofs.BaseChecks.{library_check}
use Rattle.class_tree.proofs.base.check_names.Given as goal

abbrev pub invariant-loop-name : goal.invariant-loop-name
invariant-loop-name l =
    Remain (asked_each (library_check l.headers) base_names) (asked_each (λ name. library_check l.headers name.now) (drop l.name-index l.name-items))
