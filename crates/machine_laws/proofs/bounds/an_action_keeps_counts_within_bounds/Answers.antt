use Rattle.machine_laws.proofs.ActGrows.{act_grows}
use Rattle.machine_laws.proofs.bounds.an_action_keeps_counts_within_bounds.Goals as goal

pub returns : goal.returns
returns c = λ P action w is. (act_grows P action w).bounded tt is
