use Rattle.std.proofs.Common.{◌≡◌, ◌-◌, length, take}
use Rattle.tests_base.proofs.frame_tests.units_of.Given as goal

abbrev pub invariant-loop-unit : goal.invariant-loop-unit
invariant-loop-unit l = l.units ≡ take (length l.units) l.locals

abbrev pub decreases-loop-unit : goal.decreases-loop-unit
decreases-loop-unit l = length l.locals - length l.units
