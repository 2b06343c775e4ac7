use Rattle.std.proofs.Common.{◌≡◌, ◌+◌, ◌-◌, ◌++◌, ◌∷◌, [], length, get_or, ap, ◌∙◌, refl, arith, rules}
use Rattle.std.proofs.lemmas.Grind.{common_steps}
use Rattle.plan_flow.specs.PlanTable.{operand}
use Rattle.plan_flow.proofs.Gathering.{gathered_none, gathered_more, gathered_all}
use Rattle.virtual_state.specs.declared.slot.Slot.{Slot}
use Rattle.plan_flow.proofs.sources.push_operands.Goals as goal

pub loop-number-init : goal.loop-number-init
loop-number-init c = gathered_none c.args.list.now.items c.args.state.now c.args.types.now c.args.form

pub loop-number-preserved : goal.loop-number-preserved
loop-number-preserved c =
    let f = c.args.types.now in
    let top : c.saturating_sub-from_top.result ≡ length c.args.form.takes.now - (get_or c.args.form.gives.now c.loop-number.number-index 0 + 1) = first_of (search rules, grind (arith, common_steps)) in
    gathered_more c.args.list.now.items c.loop-number.list.items c.push.new.self.items c.args.state.now f c.args.form c.loop-number.number-index _ c.operand.result
    c.loop-number.invariant c.loop-number-test.true (c.operand.ensures ∙ ap (operand f) top)
    (c.in_ok-push.ensures.items ∙ ap (λ (one : Slot). c.loop-number.list.items ++ one ∷ []) c.held.ensures) refl

pub returns : goal.returns
returns c =
    gathered_all c.args.list.now.items c.loop-number.list.items c.args.state.now c.args.types.now c.args.form c.loop-number.number-index c.loop-number.invariant
    (omega (arith, c.loop-number-test.false))
