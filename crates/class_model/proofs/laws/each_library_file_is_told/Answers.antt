use Rattle.class_model.proofs.DecidedHeader.{told}
use Rattle.class_model.proofs.laws.each_library_file_is_told.Goals as goal

pub returns : goal.returns
returns c = told
