use Rattle.std.proofs.Common.{length}
use Rattle.tests_base.proofs.frame_tests.+fits_types.Given as goal

abbrev pub decreases-fits_types : goal.decreases-fits_types
decreases-fits_types l = length l.types.now
