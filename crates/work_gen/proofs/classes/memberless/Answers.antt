use Rattle.std.proofs.Common.{refl}
use Rattle.work_gen.proofs.classes.memberless.Goals as goal
use Rattle.class_model.specs.Laws.Texts.{plain_text}

pub pool_of-requires-clause-super_name : goal.pool_of-requires-clause-super_name
pool_of-requires-clause-super_name c = plain_text _ refl
