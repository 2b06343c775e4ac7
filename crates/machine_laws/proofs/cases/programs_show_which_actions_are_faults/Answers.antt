use Rattle.machine_laws.proofs.FaultsRuns.{faults_run}
use Rattle.machine_laws.proofs.cases.programs_show_which_actions_are_faults.Goals as goal

pub returns : goal.returns
returns c = faults_run
