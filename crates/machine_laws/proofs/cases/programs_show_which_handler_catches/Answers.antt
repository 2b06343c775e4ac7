use Rattle.machine_laws.proofs.HandlersRuns.{handlers_run}
use Rattle.machine_laws.proofs.cases.programs_show_which_handler_catches.Goals as goal

pub returns : goal.returns
returns c = handlers_run
