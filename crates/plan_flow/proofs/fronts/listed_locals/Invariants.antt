use Rattle.std.proofs.Common.{◌≡◌, take}
use Rattle.plan_flow.specs.Inner.Fronts.{locals_held}
use Rattle.plan_flow.specs.PlanSlots.{fit_locals}
use Rattle.plan_flow.proofs.fronts.listed_locals.Given as goal

abbrev pub invariant-loop-at : goal.invariant-loop-at
invariant-loop-at l = l.slots.items ≡ fit_locals (take l.at l.target) (locals_held l.state l.types l.stored)
