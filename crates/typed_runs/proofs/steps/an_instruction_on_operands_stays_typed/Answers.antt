use Rattle.typed_runs.proofs.OnOperands.{steps_typed}
use Rattle.typed_runs.proofs.steps.an_instruction_on_operands_stays_typed.Goals as goal

pub returns : goal.returns
returns c = steps_typed
