use Rattle.std.proofs.Common.{◌≡◌, drop, take}
use Rattle.plan_flow.proofs.targets.slots_from.Given as goal

abbrev pub invariant-loop-at : goal.invariant-loop-at
invariant-loop-at l = l.slots.items ≡ drop l.first (take l.at l.state.slots)
