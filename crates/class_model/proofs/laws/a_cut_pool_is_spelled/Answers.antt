use Rattle.class_model.proofs.PoolCuts.{pool_taken}
use Rattle.class_model.proofs.laws.a_cut_pool_is_spelled.Goals as goal

pub returns : goal.returns
returns c = pool_taken
