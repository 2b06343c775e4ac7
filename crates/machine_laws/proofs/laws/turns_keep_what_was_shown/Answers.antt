use Rattle.machine_laws.proofs.ActGrows.{turns_grow}
use Rattle.machine_laws.proofs.laws.turns_keep_what_was_shown.Goals as goal

pub returns : goal.returns
returns c = turns_grow
