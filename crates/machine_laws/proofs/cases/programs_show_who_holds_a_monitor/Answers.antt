use Rattle.machine_laws.proofs.SynchronizationRuns.{synchronization_run}
use Rattle.machine_laws.proofs.cases.programs_show_who_holds_a_monitor.Goals as goal

pub returns : goal.returns
returns c = synchronization_run
