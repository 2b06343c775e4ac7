use Rattle.class_model.proofs.DecidedClass.{told}
use Rattle.class_model.proofs.laws.each_file_is_told.Goals as goal

pub returns : goal.returns
returns c = told
