use Rattle.written_files.proofs.WrittenClasses.ShortNeeds.{code_fits}
use Rattle.written_files.proofs.class_laws.what_written_code_needs_fits.Goals as goal

pub returns : goal.returns
returns c = code_fits
