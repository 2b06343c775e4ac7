use Rattle.typed_runs.proofs.Starts.{start_typed}
use Rattle.typed_runs.proofs.worlds.a_run_starts_typed.Goals as goal

pub returns : goal.returns
returns c = start_typed
