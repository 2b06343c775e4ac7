use Rattle.std.proofs.Common.{◌≡◌}
use Rattle.plan_flow.specs.Inner.Fronts.{tops_before}
use Rattle.plan_flow.proofs.fronts.next_top.Given as goal

abbrev pub invariant-loop-at : goal.invariant-loop-at
invariant-loop-at l = tops_before l.target l.at ≡ tops_before l.target l.from
