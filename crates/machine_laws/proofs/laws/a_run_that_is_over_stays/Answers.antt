use Rattle.machine_laws.proofs.RunLaws.{over_stays}
use Rattle.machine_laws.proofs.laws.a_run_that_is_over_stays.Goals as goal

pub returns : goal.returns
returns c = over_stays
