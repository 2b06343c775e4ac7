use Rattle.machine_laws.proofs.CallsRuns.{calls_run}
use Rattle.machine_laws.proofs.cases.programs_show_what_calls_run.Goals as goal

pub returns : goal.returns
returns c = calls_run
