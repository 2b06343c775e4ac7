use Rattle.machine_laws.proofs.ArithmeticRuns.{arithmetic_run}
use Rattle.machine_laws.proofs.cases.programs_show_what_arithmetic_gives.Goals as goal

pub returns : goal.returns
returns c = arithmetic_run
