use Rattle.std.proofs.Common.{drop}
use Rattle.stackmap_emit.proofs.led.mark_all.Given as goal
use Rattle.stackmap_emit.specs.Inner.Marks.{IsMarkedBut, are_targets}

abbrev pub invariant-loop-to : goal.invariant-loop-to
invariant-loop-to l = IsMarkedBut (are_targets (drop l.to-index l.numbers)) (are_targets l.numbers) l.initial.led l.led
