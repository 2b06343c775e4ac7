use Rattle.plan_flow.proofs.Fitting.{HasHeld}
use Rattle.plan_flow.proofs.slots.push_held.Given as goal

abbrev pub invariant-loop-at : goal.invariant-loop-at
invariant-loop-at l = HasHeld l.initial.slots.items l.slots.items l.state l.first l.at
