-- What was read so far, and what is left.
use Rattle.std.proofs.Common.{length}
use Rattle.script_text.proofs.PrintedBytes.{BytesSoFar}
use Rattle.script_text.proofs.texts.bytes_of.Given as goal

abbrev pub invariant-loop-rest : goal.invariant-loop-rest
invariant-loop-rest l = BytesSoFar l.word l.bytes l.rest

abbrev pub decreases-loop-rest : goal.decreases-loop-rest
decreases-loop-rest l = length l.rest
