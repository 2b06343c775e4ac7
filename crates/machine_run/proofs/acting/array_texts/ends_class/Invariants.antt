use Rattle.std.proofs.Common.{◌≡◌, length}
use Rattle.machine_run.specs.Inner.ArrayWords.{ends_class}
use Rattle.machine_run.proofs.acting.array_texts.ends_class.Given as goal

abbrev pub invariant-loop-byte : goal.invariant-loop-byte
invariant-loop-byte l = ends_class l.text ≡ ends_class l.rest

abbrev pub decreases-loop-byte : goal.decreases-loop-byte
decreases-loop-byte l = length l.rest
