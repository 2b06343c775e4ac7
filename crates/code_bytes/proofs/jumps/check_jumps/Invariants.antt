use Rattle.code_bytes.proofs.Targets.{Passes}
use Rattle.code_bytes.proofs.jumps.check_jumps.Given as goal

abbrev pub invariant-loop-placed : goal.invariant-loop-placed
invariant-loop-placed l = Passes l.code l.placed-index
