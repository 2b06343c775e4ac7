use Rattle.class_model.proofs.CutTypes.{parameters_are}
use Rattle.class_model.proofs.laws.parameters_are_spelled.Goals as goal

pub returns : goal.returns
returns c = parameters_are
