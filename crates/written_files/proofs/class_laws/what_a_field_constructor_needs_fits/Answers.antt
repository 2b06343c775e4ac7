use Rattle.written_files.proofs.WrittenClasses.ShortNeeds.{constructor_fits}
use Rattle.written_files.proofs.class_laws.what_a_field_constructor_needs_fits.Goals as goal

pub returns : goal.returns
returns c = λ headers constructor class is. constructor_fits constructor headers class is
