use Rattle.std.proofs.Common.{◌≡◌, drop}
use Rattle.inline_expand.specs.Inner.Stacks.{stacked}
use Rattle.inline_expand.proofs.visits.Stack.enter.Given as goal

abbrev pub invariant-loop-need : goal.invariant-loop-need
invariant-loop-need l = stacked (drop l.need-index l.needs) l.self ≡ stacked l.needs l.initial.self
