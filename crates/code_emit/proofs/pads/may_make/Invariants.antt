use Rattle.code_emit.proofs.PadLaws.{MakesNoneBelow}
use Rattle.code_emit.proofs.pads.may_make.Given as goal

abbrev pub invariant-loop-number : goal.invariant-loop-number
invariant-loop-number l = MakesNoneBelow l.plan l.at l.number
