-- An invokeinterface has the second form of a call.
use Rattle.std.proofs.Common.{inr, refl, arith}
use Rattle.tests_base.proofs.encoding_tests.others.Goals as goal

pub written-requires-13 : goal.written-requires-13
written-requires-13 c = λ told. record { place = omega arith; targets = tt; form = inr refl }
