use Rattle.typed_runs.proofs.OnObjects.{objects_typed}
use Rattle.typed_runs.proofs.steps.a_new_object_stays_typed.Goals as goal

pub returns : goal.returns
returns c = objects_typed
