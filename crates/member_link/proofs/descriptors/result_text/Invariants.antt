use Rattle.std.proofs.Common.{length}
use Rattle.member_link.proofs.ResultLens.{Passed}
use Rattle.member_link.proofs.descriptors.result_text.Given as goal

abbrev pub decreases-loop-types : goal.decreases-loop-types
decreases-loop-types l = length l.types

abbrev pub invariant-loop-types : goal.invariant-loop-types
invariant-loop-types l = Passed l.desc l.types l.result
