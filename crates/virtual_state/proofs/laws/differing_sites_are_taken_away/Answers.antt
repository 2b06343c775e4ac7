use Rattle.virtual_state.specs.Laws.Orders.{below_is_state, below_without, differing_is_closed, differing_is_taken}
use Rattle.virtual_state.proofs.laws.differing_sites_are_taken_away.Goals as goal

pub returns : goal.returns
returns c = record { closed = differing_is_closed; taken = differing_is_taken; state = below_is_state; below = below_without }
