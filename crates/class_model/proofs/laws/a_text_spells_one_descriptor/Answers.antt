use Rattle.class_model.proofs.Parameters.{one_descriptor}
use Rattle.class_model.proofs.laws.a_text_spells_one_descriptor.Goals as goal

pub returns : goal.returns
returns c = one_descriptor
