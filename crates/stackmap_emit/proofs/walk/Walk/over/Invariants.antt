use Rattle.std.proofs.Common.{drop}
use Rattle.stackmap_emit.proofs.walk.Walk.over.Given as goal
use Rattle.stackmap_emit.specs.Inner.Walking.{AreWalkedTo, reads_of}

abbrev pub invariant-loop-number : goal.invariant-loop-number
invariant-loop-number l = AreWalkedTo (reads_of l.self) l.entry l.items l.number l.flow (drop l.number l.items) l.made
