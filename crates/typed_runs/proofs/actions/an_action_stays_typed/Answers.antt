use Rattle.typed_runs.proofs.LibraryActions.{act_stays}
use Rattle.typed_runs.proofs.actions.an_action_stays_typed.Goals as goal

pub returns : goal.returns
returns c = act_stays
