use Rattle.machine_laws.proofs.ActGrows.{turn_grows}
use Rattle.machine_laws.proofs.laws.a_turn_keeps_what_was_shown.Goals as goal

pub returns : goal.returns
returns c = λ P r. (turn_grows P r).grows
