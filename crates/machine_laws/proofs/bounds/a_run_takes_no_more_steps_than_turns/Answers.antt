use Rattle.machine_laws.proofs.ActGrows.{run_steps}
use Rattle.machine_laws.proofs.bounds.a_run_takes_no_more_steps_than_turns.Goals as goal

pub returns : goal.returns
returns c = run_steps
