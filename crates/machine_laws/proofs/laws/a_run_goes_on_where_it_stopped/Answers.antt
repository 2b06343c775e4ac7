use Rattle.machine_laws.proofs.RunLaws.{turns_add}
use Rattle.machine_laws.proofs.laws.a_run_goes_on_where_it_stopped.Goals as goal

pub returns : goal.returns
returns c = turns_add
