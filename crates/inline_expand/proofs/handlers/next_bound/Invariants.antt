use Rattle.std.proofs.Common.{take}
use Rattle.std.specs.List.{AllByRecursion}
use Rattle.inline_expand.specs.Inner.Hosts.{CoversAlike}
use Rattle.inline_expand.proofs.handlers.next_bound.Given as goal

abbrev pub invariant-loop-handler : goal.invariant-loop-handler
invariant-loop-handler l = AllByRecursion (CoversAlike l.at l.next) (take l.handler-index l.handlers)
