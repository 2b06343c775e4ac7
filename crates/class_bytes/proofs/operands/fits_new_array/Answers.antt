use Rattle.class_bytes.proofs.Decides.{class_fits}
use Rattle.class_bytes.proofs.operands.fits_new_array.Goals as goal

pub returns-in-Some : goal.returns-in-Some
returns-in-Some c = class_fits c.fits_array.result c.in-Some.name.now c.bytes.result.now _ c.in-Some.ensures c.bytes.ensures.same c.fits_array.ensures
