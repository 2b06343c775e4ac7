use Rattle.std.proofs.Common.{◌≡◌, ◌∙◌, ◌++◌, ◌∷◌, [], ℕ, ap, subst, arith}
use Rattle.plan_flow.specs.PlanSlots.{slots_from}
use Rattle.plan_flow.specs.PlanTable.{held_from}
use Rattle.plan_flow.proofs.Fitting.{held_next}
use Rattle.virtual_state.specs.declared.slot.Slot.{Slot}
use Rattle.plan_flow.proofs.slots.push_held.Goals as goal

pub loop-at-preserved : goal.loop-at-preserved
loop-at-preserved c =
    held_next c.args.slots.now.items c.loop-at.slots.items c.push.new.self.items c.args.state.now c.args.first c.loop-at.at _ c.loop-at.invariant (omega arith)
    (c.in_ok-push.ensures.items ∙ ap (λ (one : Slot). c.loop-at.slots.items ++ one ∷ []) c.held_behind.ensures)

pub returns : goal.returns
returns c = λ s by.
    let all : c.loop-at.at ≡ c.args.count = omega (arith, c.loop-at-test.false, c.loop-at.auto.at-end) in
    subst (λ (count : ℕ). c.loop-at.slots.items ≡ c.args.slots.now.items ++ slots_from s c.args.state.now by (held_from c.args.first count)) all (c.loop-at.invariant.each s by)
