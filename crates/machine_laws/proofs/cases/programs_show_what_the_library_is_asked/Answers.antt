use Rattle.machine_laws.proofs.OutsideRuns.{outside_run}
use Rattle.machine_laws.proofs.cases.programs_show_what_the_library_is_asked.Goals as goal

pub returns : goal.returns
returns c = outside_run
