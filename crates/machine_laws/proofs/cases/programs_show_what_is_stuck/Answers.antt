use Rattle.machine_laws.proofs.StuckRuns.{stuck_run}
use Rattle.machine_laws.proofs.cases.programs_show_what_is_stuck.Goals as goal

pub returns : goal.returns
returns c = stuck_run
