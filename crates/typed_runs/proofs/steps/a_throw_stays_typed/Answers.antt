use Rattle.typed_runs.proofs.Throwing.{throws_typed}
use Rattle.typed_runs.proofs.steps.a_throw_stays_typed.Goals as goal

pub returns : goal.returns
returns c = throws_typed
