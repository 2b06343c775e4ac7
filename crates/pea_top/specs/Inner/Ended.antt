-- The status of steps that stop with one.
use Rattle.std.specs.Prelude.{Result, Ok, Err}
use Rattle.pea_top.specs.declared.status.Status.{Status}
use Rattle.pea_top.specs.declared.status.Status.TheVariants.{Done}

-- the status of what was done, or stopped with a status
abbrev pub ended : {X : Type 0} → Result X Status → Status
ended (Ok done) = Done
ended (Err stop) = stop
