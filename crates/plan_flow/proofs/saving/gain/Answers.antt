use Rattle.std.proofs.Common.{refl, arith}
use Rattle.std.proofs.lemmas.Bool.{false≢true}
use Rattle.plan_flow.specs.PlanScope.{scope_of}
use Rattle.plan_flow.proofs.PlanGains.{gains_found, gains_here}
use Rattle.plan_flow.proofs.saving.gain.Goals as goal

pub returns-then-gains_at : goal.returns-then-gains_at
returns-then-gains_at c = λ classes links valid.
    (λ told. gains_here (scope_of classes links c.args.flat.now) c.args.plan.now valid c.loop-at.at (c.gains_at.ensures.0 c.if-gains_at.true), λ gains. refl)

pub returns : goal.returns
returns c = λ classes links valid. (
  λ told. absurd (false≢true told),
  λ gains.
      let found = gains_found (scope_of classes links c.args.flat.now) c.args.plan.now valid gains in
      let low = found.low in
      let len = c.len-at-end.ensures.len in
      absurd (c.loop-at.invariant found.at (omega (arith, low, len)) found.gains),
)
