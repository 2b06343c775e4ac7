use Rattle.std.proofs.Common.{length}
use Rattle.code_bytes.proofs.Sequences.{Reads}
use Rattle.code_bytes.proofs.decoding.instrs_of.Given as goal

abbrev pub invariant-loop-bytes : goal.invariant-loop-bytes
invariant-loop-bytes l = Reads l.code l.instrs l.at l.bytes

abbrev pub decreases-loop-bytes : goal.decreases-loop-bytes
decreases-loop-bytes l = length l.bytes
