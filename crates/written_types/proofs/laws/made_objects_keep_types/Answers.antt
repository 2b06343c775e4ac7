use Rattle.written_types.proofs.Arrivals.{fits_point, fits_types, made_fits}
use Rattle.written_types.proofs.laws.made_objects_keep_types.Goals as goal

pub returns : goal.returns
returns c = λ s reached at state away fits. fits_types (made_fits away (fits_point fits))
