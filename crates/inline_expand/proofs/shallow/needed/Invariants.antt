use Rattle.std.proofs.Common.{take}
use Rattle.inline_expand.specs.Inner.Chains.{IsNeeded}
use Rattle.inline_expand.proofs.shallow.needed.Given as goal

abbrev pub invariant-loop-at : goal.invariant-loop-at
invariant-loop-at l = IsNeeded l.host.tree.now l.host.typed.now (take l.at-index l.methods) l.all
