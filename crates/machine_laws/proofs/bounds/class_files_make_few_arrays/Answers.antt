use Rattle.machine_laws.proofs.FewDimensions.{classes_few}
use Rattle.machine_laws.proofs.bounds.class_files_make_few_arrays.Goals as goal

pub returns : goal.returns
returns c = classes_few
