use Rattle.class_model.proofs.ClassLaws.{other_version}
use Rattle.class_model.proofs.laws.another_version_is_no_class_file.Goals as goal

pub returns : goal.returns
returns c = other_version
