use Rattle.same_runs.proofs.SameShown.{equally_forth, equally_back}
use Rattle.same_runs.proofs.equal_runs.running_equally_is_running_the_same.Goals as goal

pub returns : goal.returns
returns c = record { forth = equally_forth; back = equally_back }
