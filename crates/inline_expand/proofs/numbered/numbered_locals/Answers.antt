use Rattle.std.proofs.Common.{◌≡◌, ℕ, subst, ◌∙◌, arith}
use Rattle.expanded_code.specs.Alone.{number_at, numbered_type}
use Rattle.inline_expand.proofs.NumberedLocals.{all-numbered, one-changed, some-changed}
use Rattle.inline_expand.proofs.numbered.numbered_locals.Goals as goal

pub loop-unit-preserved : goal.loop-unit-preserved
loop-unit-preserved c =
    one-changed (numbered_type (number_at c.args.host.now)) c.args.locals.now c.loop-unit.list c.number_unit.new.list c.loop-unit.unit
    (omega (arith, c.loop-unit-test.true, c.listed-unit-end.ensures.few)) c.loop-unit.invariant c.in_ok-number_unit.ensures

pub returns : goal.returns
returns c =
    let number = numbered_type (number_at c.args.host.now) in
    let end : c.loop-unit.unit ≡ c.listed-unit-end.result = omega (arith, c.loop-unit-test.false, c.loop-unit.auto.unit-end) in
    subst (λ (n : ℕ). c.loop-unit.list ≡ some-changed number n c.args.locals.now) end c.loop-unit.invariant
    ∙ all-numbered (number_at c.args.host.now) c.args.locals.now c.listed-unit-end.result _ c.listed-unit-end.ensures.tops
