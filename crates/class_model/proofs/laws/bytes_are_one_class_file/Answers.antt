use Rattle.class_model.proofs.ClassLaws.{one_class_file}
use Rattle.class_model.proofs.laws.bytes_are_one_class_file.Goals as goal

pub returns : goal.returns
returns c = one_class_file
