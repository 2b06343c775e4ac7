use Rattle.virtual_state.specs.Laws.Orders.{chain_len}
use Rattle.virtual_state.proofs.laws.chains_end.Goals as goal

pub returns : goal.returns
returns c = chain_len
