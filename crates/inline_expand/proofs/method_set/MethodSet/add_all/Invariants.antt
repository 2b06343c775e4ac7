use Rattle.std.proofs.Common.{take}
use Rattle.inline_expand.specs.Inner.MethodSets.{AddsAll}
use Rattle.inline_expand.proofs.method_set.MethodSet.add_all.Given as goal

abbrev pub invariant-loop-at : goal.invariant-loop-at
invariant-loop-at l = AddsAll l.initial.self l.self (take l.at-index l.methods)
