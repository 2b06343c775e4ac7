use Rattle.std.proofs.Common.{◌+◌, drop}
use Rattle.class_model.specs.Methods.{bootstraps_checks}
use Rattle.class_bytes.specs.Inner.Bootstraps.{bootstraps_of, bootstraps_len}
use Rattle.class_bytes.proofs.Tables.{MethodsChecked}
use Rattle.class_bytes.proofs.bootstraps.check_bootstraps.Given as goal

abbrev pub invariant-loop-method : goal.invariant-loop-method
invariant-loop-method l =
    MethodsChecked l.pool (bootstraps_checks l.pool l.at (bootstraps_of l.methods)) (l.at + bootstraps_len (bootstraps_of l.methods)) l.place (drop l.method-index l.methods)
