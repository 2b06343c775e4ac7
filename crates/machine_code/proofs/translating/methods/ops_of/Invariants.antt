use Rattle.std.proofs.Common.{take}
use Rattle.machine_code.specs.Inner.Preparing.{AreOps}
use Rattle.machine_code.proofs.translating.methods.ops_of.Given as goal

abbrev pub invariant-loop-placed : goal.invariant-loop-placed
invariant-loop-placed l = AreOps l.code l.numbers (take l.placed-index l.instrs) l.made.items
