use Rattle.machine_laws.proofs.ArraysRuns.{arrays_run}
use Rattle.machine_laws.proofs.cases.programs_show_which_throwables_are_raised.Goals as goal

pub returns : goal.returns
returns c = arrays_run
