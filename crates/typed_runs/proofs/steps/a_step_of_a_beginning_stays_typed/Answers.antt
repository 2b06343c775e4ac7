use Rattle.typed_runs.proofs.BeginningSteps.{begins_typed}
use Rattle.typed_runs.proofs.steps.a_step_of_a_beginning_stays_typed.Goals as goal

pub returns : goal.returns
returns c = begins_typed
