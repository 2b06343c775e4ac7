use Rattle.std.proofs.Common.{length}
use Rattle.member_link.proofs.ReadParameters.{Counted}
use Rattle.member_link.proofs.descriptors.parameter_count.Given as goal

abbrev pub decreases-loop-rest : goal.decreases-loop-rest
decreases-loop-rest l = length l.rest

abbrev pub invariant-loop-rest : goal.invariant-loop-rest
invariant-loop-rest l = Counted l.desc l.rest l.count
