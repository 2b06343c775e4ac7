use Rattle.std.proofs.Common.{refl}
use Rattle.work_gen.proofs.classes.keeper_pool.Goals as goal
use Rattle.class_model.specs.Laws.Texts.{plain_text}

pub pool_of-requires-clause-name : goal.pool_of-requires-clause-name
pool_of-requires-clause-name c = plain_text _ refl

pub pool_of-requires-clause-super_name : goal.pool_of-requires-clause-super_name
pool_of-requires-clause-super_name c = plain_text _ refl

pub push_text-requires-clause-text : goal.push_text-requires-clause-text
push_text-requires-clause-text c = plain_text _ refl

pub push_text-requires-2-clause-text : goal.push_text-requires-2-clause-text
push_text-requires-2-clause-text c = plain_text _ refl

pub push_text-requires-3-clause-text : goal.push_text-requires-3-clause-text
push_text-requires-3-clause-text c = plain_text _ refl
