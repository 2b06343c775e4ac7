use Rattle.std.proofs.Common.{◌≡◌, ◌≤◌, take}
use Rattle.plan_flow.specs.Inner.Fronts.{tops_before}
use Rattle.plan_flow.proofs.fronts.has_tops_at.Given as goal

abbrev pub invariant-loop-number : goal.invariant-loop-number
invariant-loop-number l = (l.from ≤ l.count) × (tops_before l.target l.from ≡ take l.number l.places)
