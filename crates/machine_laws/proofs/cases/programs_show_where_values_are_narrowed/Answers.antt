use Rattle.machine_laws.proofs.NarrowingRuns.{narrowing_run}
use Rattle.machine_laws.proofs.cases.programs_show_where_values_are_narrowed.Goals as goal

pub returns : goal.returns
returns c = narrowing_run
