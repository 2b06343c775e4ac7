use Rattle.inline_expand.specs.Inner.ReadyCallees.{CallsBefore}
use Rattle.inline_expand.proofs.ready.own_callees.Given as goal

abbrev pub invariant-loop-number : goal.invariant-loop-number
invariant-loop-number l = CallsBefore l.host.tree.now l.host.typed.now l.method l.number l.callees.items
