use Rattle.typed_runs.proofs.Returns.{returns_typed}
use Rattle.typed_runs.proofs.steps.a_return_stays_typed.Goals as goal

pub returns : goal.returns
returns c = returns_typed
