use Rattle.virtual_state.specs.Laws.Orders.{join_is_one, join_commutes, join_associates, join_grows, join_of_below}
use Rattle.virtual_state.proofs.laws.joins_are_least.Goals as goal

pub returns : goal.returns
returns c = record { one = join_is_one; commutes = join_commutes; associates = join_associates; grows = join_grows; below = join_of_below }
