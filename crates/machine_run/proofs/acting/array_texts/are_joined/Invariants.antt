use Rattle.std.proofs.Common.{◌≡◌, true, length}
use Rattle.member_link.specs.Machine.Acting.{are_joined}
use Rattle.machine_run.proofs.acting.array_texts.are_joined.Given as goal

abbrev pub invariant-loop-byte : goal.invariant-loop-byte
invariant-loop-byte l = are_joined true l.text ≡ are_joined l.begins l.rest

abbrev pub decreases-loop-byte : goal.decreases-loop-byte
decreases-loop-byte l = length l.rest
