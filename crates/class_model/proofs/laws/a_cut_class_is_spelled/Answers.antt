use Rattle.class_model.proofs.ClassCuts.{cut_spelled}
use Rattle.class_model.proofs.laws.a_cut_class_is_spelled.Goals as goal

pub returns : goal.returns
returns c = cut_spelled
