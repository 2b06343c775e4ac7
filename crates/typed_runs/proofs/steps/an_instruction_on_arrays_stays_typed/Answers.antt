use Rattle.typed_runs.proofs.OnObjects.{arrays_typed}
use Rattle.typed_runs.proofs.steps.an_instruction_on_arrays_stays_typed.Goals as goal

pub returns : goal.returns
returns c = arrays_typed
