use Rattle.class_model.proofs.ClassLaws.{no_fault}
use Rattle.class_model.proofs.laws.a_class_file_has_no_fault.Goals as goal

pub returns : goal.returns
returns c = no_fault
