use Rattle.inline_expand.proofs.StandingParts.{AloneBefore}
use Rattle.inline_expand.proofs.standing.return_alone.Given as goal

abbrev pub invariant-loop-number : goal.invariant-loop-number
invariant-loop-number l = AloneBefore l.instrs l.frames l.number
