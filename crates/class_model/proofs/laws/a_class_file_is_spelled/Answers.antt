use Rattle.class_model.proofs.ClassCuts.{spelled}
use Rattle.class_model.proofs.laws.a_class_file_is_spelled.Goals as goal

pub returns : goal.returns
returns c = spelled
