use Rattle.std.proofs.Common.{length}
use Rattle.member_link.proofs.ReadParameters.{Read}
use Rattle.member_link.proofs.descriptors.parameter_kinds.Given as goal

abbrev pub decreases-loop-rest : goal.decreases-loop-rest
decreases-loop-rest l = length l.rest

abbrev pub invariant-loop-rest : goal.invariant-loop-rest
invariant-loop-rest l = Read l.desc l.rest l.kinds.items
