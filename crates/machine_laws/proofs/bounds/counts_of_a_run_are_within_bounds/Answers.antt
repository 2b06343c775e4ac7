use Rattle.machine_laws.proofs.ActGrows.{run_bounded}
use Rattle.machine_laws.proofs.bounds.counts_of_a_run_are_within_bounds.Goals as goal

pub returns : goal.returns
returns c = run_bounded
