use Rattle.std.proofs.Common.{length}
use Rattle.tests_base.proofs.frame_tests.+fits_frames.Given as goal

abbrev pub decreases-fits_frames : goal.decreases-fits_frames
decreases-fits_frames l = length l.frames.now
