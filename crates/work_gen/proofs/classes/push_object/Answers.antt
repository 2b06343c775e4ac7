use Rattle.std.proofs.Common.{refl}
use Rattle.work_gen.proofs.classes.push_object.Goals as goal
use Rattle.class_model.specs.Laws.Texts.{plain_text}

pub push_class-requires-clause-text : goal.push_class-requires-clause-text
push_class-requires-clause-text c = plain_text _ refl

pub push_text-requires-clause-text : goal.push_text-requires-clause-text
push_text-requires-clause-text c = plain_text _ refl

pub push_text-requires-2-clause-text : goal.push_text-requires-2-clause-text
push_text-requires-2-clause-text c = plain_text _ refl

pub push_text-requires-3-clause-text : goal.push_text-requires-3-clause-text
push_text-requires-3-clause-text c = plain_text _ refl

pub push_text-requires-4-clause-text : goal.push_text-requires-4-clause-text
push_text-requires-4-clause-text c = plain_text _ refl

pub push_text-requires-5-clause-text : goal.push_text-requires-5-clause-text
push_text-requires-5-clause-text c = plain_text _ refl

pub push_text-requires-6-clause-text : goal.push_text-requires-6-clause-text
push_text-requires-6-clause-text c = plain_text _ refl
