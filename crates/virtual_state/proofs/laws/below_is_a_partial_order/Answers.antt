use Rattle.virtual_state.specs.Laws.Orders.{below_itself, below_both_ways, below_and_below}
use Rattle.virtual_state.proofs.laws.below_is_a_partial_order.Goals as goal

pub returns : goal.returns
returns c = record { itself = below_itself; both_ways = below_both_ways; onwards = below_and_below }
