use Rattle.std.proofs.Common.{length}
use Rattle.cases_rewrite.proofs.flat.+fits_handlers.Given as goal

abbrev pub decreases-fits_handlers : goal.decreases-fits_handlers
decreases-fits_handlers l = length l.handlers.now
