use Rattle.class_model.proofs.ClassLaws.{one_first_fault}
use Rattle.class_model.proofs.laws.one_first_fault.Goals as goal

pub returns : goal.returns
returns c = one_first_fault
