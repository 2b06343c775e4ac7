use Rattle.same_runs.proofs.SameShown.{equal_programs}
use Rattle.same_runs.proofs.equal_runs.programs_that_are_equal_run_equally.Goals as goal

pub returns : goal.returns
returns c = equal_programs
