use Rattle.std.proofs.Common.{length}
use Rattle.cases_rewrite.proofs.flat.+fits_points.Given as goal

abbrev pub decreases-fits_points : goal.decreases-fits_points
decreases-fits_points l = length l.points.now
