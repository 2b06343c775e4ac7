use Rattle.machine_laws.proofs.InitialisationRuns.{initialisation_run}
use Rattle.machine_laws.proofs.cases.programs_show_who_begins_a_class.Goals as goal

pub returns : goal.returns
returns c = initialisation_run
