use Rattle.machine_laws.proofs.WorkedProgramsRuns.{worked_programs_run}
use Rattle.machine_laws.proofs.cases.worked_programs_run_as_written.Goals as goal

pub returns : goal.returns
returns c = worked_programs_run
