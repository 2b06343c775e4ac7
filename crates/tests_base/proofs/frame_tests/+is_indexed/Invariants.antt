use Rattle.std.proofs.Common.{length}
use Rattle.tests_base.proofs.frame_tests.+is_indexed.Given as goal

abbrev pub decreases-is_indexed : goal.decreases-is_indexed
decreases-is_indexed l = length l.classes.now
