use Rattle.machine_run.proofs.NextPlaces.{step_fits}
use Rattle.machine_run.proofs.laws.a_step_keeps_next_places.Goals as goal

pub returns : goal.returns
returns c = λ P w next is. (step_fits P w next (record { is = is })).is
