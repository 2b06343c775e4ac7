use Rattle.machine_run.proofs.NextPlaces.{act_fits}
use Rattle.machine_run.proofs.laws.an_action_keeps_next_places.Goals as goal

pub returns : goal.returns
returns c = λ P action w turn is. (act_fits P action w turn (record { is = is })).is
