use Rattle.std.proofs.Common.{◌-◌, length}
use Rattle.tests_base.proofs.local_types_tests.change.Given as goal

abbrev pub decreases-loop-list : goal.decreases-loop-list
decreases-loop-list l = l.number - length l.list
