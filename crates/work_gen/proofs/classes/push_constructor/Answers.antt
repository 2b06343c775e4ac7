use Rattle.std.proofs.Common.{refl}
use Rattle.work_gen.proofs.classes.push_constructor.Goals as goal
use Rattle.class_model.specs.Laws.Texts.{plain_text}

pub push_text-requires-clause-text : goal.push_text-requires-clause-text
push_text-requires-clause-text c = plain_text _ refl

pub push_text-requires-2-clause-text : goal.push_text-requires-2-clause-text
push_text-requires-2-clause-text c = plain_text _ refl

pub push_text-requires-3-clause-text : goal.push_text-requires-3-clause-text
push_text-requires-3-clause-text c = plain_text _ refl
