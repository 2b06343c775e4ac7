use Rattle.class_model.proofs.TextDescriptors.{spelled_of_text}
use Rattle.class_model.proofs.laws.a_descriptor_of_a_text.Goals as goal

pub returns : goal.returns
returns c = spelled_of_text
