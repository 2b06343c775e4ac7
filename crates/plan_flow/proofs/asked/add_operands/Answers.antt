use Rattle.std.proofs.Common.{◌≡◌, ℕ, ap, subst, ◌∙◌, arith}
use Rattle.plan_flow.specs.Inner.Asking.{HasAdded, IsAskedIn}
use Rattle.plan_flow.specs.PlanSlots.{held}
use Rattle.plan_flow.specs.PlanTable.{operands_asked}
use Rattle.plan_flow.proofs.Adding.{operands_none, operands_next}
use Rattle.plan_flow.proofs.asked.add_operands.Goals as goal

pub loop-number-init : goal.loop-number-init
loop-number-init c = operands_none c.args.sites.now c.args.state.now c.args.types.now

pub loop-number-preserved : goal.loop-number-preserved
loop-number-preserved c =
    operands_next c.args.state.now c.args.types.now c.loop-number.number _ c.held.result (omega arith)
    (c.held.ensures ∙ ap (held c.args.state.now) c.operand.ensures)
    c.loop-number.invariant c.in_ok-add_tested.ensures

pub returns : goal.returns
returns c = λ s.
    let all : c.loop-number.number ≡ c.args.count = omega (arith, c.loop-number-test.false, c.loop-number.auto.number-end) in
    subst (λ (count : ℕ). HasAdded c.args.sites.now c.loop-number.sites (IsAskedIn s c.args.state.now (operands_asked c.args.types.now count))) all
    (c.loop-number.invariant.each s)
