use Rattle.std.proofs.Common.{length}
use Rattle.cases_rewrite.proofs.flat.+fits_sites.Given as goal

abbrev pub decreases-fits_sites : goal.decreases-fits_sites
decreases-fits_sites l = length l.sites.now
