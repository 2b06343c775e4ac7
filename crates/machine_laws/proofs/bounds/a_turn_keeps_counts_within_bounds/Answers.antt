use Rattle.machine_laws.proofs.ActGrows.{turn_grows}
use Rattle.machine_laws.proofs.bounds.a_turn_keeps_counts_within_bounds.Goals as goal

pub returns : goal.returns
returns c = λ P few r is. (turn_grows P r).bounded few is
