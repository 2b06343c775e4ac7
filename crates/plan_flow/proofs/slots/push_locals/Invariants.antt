use Rattle.std.proofs.Common.{◌≡◌, ◌++◌, take}
use Rattle.plan_flow.specs.PlanSlots.{fit_locals}
use Rattle.plan_flow.proofs.slots.push_locals.Given as goal

abbrev pub invariant-loop-at : goal.invariant-loop-at
invariant-loop-at l = l.slots.items ≡ l.initial.slots.items ++ fit_locals (take l.at l.types.locals) l.locals
