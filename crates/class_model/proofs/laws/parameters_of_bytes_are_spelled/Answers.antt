use Rattle.class_model.proofs.CutTypes.{parameters_of_bytes}
use Rattle.class_model.proofs.laws.parameters_of_bytes_are_spelled.Goals as goal

pub returns : goal.returns
returns c = parameters_of_bytes
