use Rattle.std.proofs.Common.{◌≡◌, ◌+◌, Some, length, arith, rules}
use Rattle.class_model.specs.Methods.{bootstraps}
use Rattle.class_bytes.specs.Inner.Bootstraps.{bootstraps_of, bootstraps_len}
use Rattle.class_bytes.proofs.TableLen.{table_long}
use Rattle.class_bytes.proofs.bootstraps.check_table.Goals as goal

pub check_bootstraps-requires : goal.check_bootstraps-requires
check_bootstraps-requires c =
    let is : bootstraps c.args.content.now ≡ Some (bootstraps_of c.as_slice.result.now) = search rules in
    let long : length c.args.content.now ≡ 2 + bootstraps_len (bootstraps_of c.as_slice.result.now) = table_long c.args.content.now (bootstraps_of c.as_slice.result.now) is in
    omega arith
