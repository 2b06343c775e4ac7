use Rattle.std.proofs.Common.{ℕ, ◌<◌}
use Rattle.std.specs.Option.{option_map}
use Rattle.flow_code.specs.FlatCode.{point_at}
use Rattle.plan_flow.specs.Inner.Gaining.{GainsAt}
use Rattle.plan_flow.specs.Plans.{planned}
use Rattle.plan_flow.proofs.saving.gain.Given as goal

abbrev pub invariant-loop-at : goal.invariant-loop-at
invariant-loop-at l = (at : ℕ) → at < l.at → ¬ GainsAt l.plan (planned l.plan at) (option_map (λ point. point.instr) (point_at l.flat at))
