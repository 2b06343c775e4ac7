use Rattle.class_model.proofs.Parameters.{one_field_type}
use Rattle.class_model.proofs.laws.a_text_spells_one_field_type.Goals as goal

pub returns : goal.returns
returns c = one_field_type
