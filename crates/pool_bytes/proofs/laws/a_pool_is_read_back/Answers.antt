use Rattle.pool_bytes.proofs.CutBack.{pool_cut}
use Rattle.pool_bytes.proofs.laws.a_pool_is_read_back.Goals as goal

pub returns : goal.returns
returns c major pool is fits tags = (pool_cut major pool is fits tags).cut
