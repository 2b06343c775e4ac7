use Rattle.std.proofs.Common.{drop}
use Rattle.stackmap_emit.proofs.led.mark_pairs.Given as goal
use Rattle.stackmap_emit.specs.Inner.Marks.{IsMarkedBut, pairs_lead}

abbrev pub invariant-loop-pair : goal.invariant-loop-pair
invariant-loop-pair l = IsMarkedBut (pairs_lead (drop l.pair-index l.pairs)) (pairs_lead l.pairs) l.initial.led l.led
