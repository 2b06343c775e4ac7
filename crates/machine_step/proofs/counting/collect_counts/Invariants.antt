use Rattle.std.proofs.Common.{take}
use Rattle.machine_step.specs.Inner.Counting.{Collects}
use Rattle.machine_step.proofs.counting.collect_counts.Given as goal

abbrev pub invariant-loop-number : goal.invariant-loop-number
invariant-loop-number l = Collects l.heap l.known (take l.number-index l.references) l.counts
