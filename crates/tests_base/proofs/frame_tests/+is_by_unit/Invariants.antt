use Rattle.std.proofs.Common.{length}
use Rattle.tests_base.proofs.frame_tests.+is_by_unit.Given as goal

abbrev pub decreases-is_by_unit : goal.decreases-is_by_unit
decreases-is_by_unit l = length l.units.now
