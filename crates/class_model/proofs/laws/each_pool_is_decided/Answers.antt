use Rattle.class_model.proofs.DecidedHeader.{pool_settled}
use Rattle.class_model.proofs.laws.each_pool_is_decided.Goals as goal

pub returns : goal.returns
returns c = pool_settled
