use Rattle.written_files.proofs.WrittenClasses.OwnValues.{class_fits}
use Rattle.written_files.proofs.class_laws.a_class_file_fits_its_items.Goals as goal

pub returns : goal.returns
returns c = class_fits
