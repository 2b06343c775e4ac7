use Rattle.virtual_state.specs.Laws.Removals.{without_twice}
use Rattle.virtual_state.proofs.laws.sets_are_taken_one_by_one.Goals as goal

pub returns : goal.returns
returns c = without_twice
