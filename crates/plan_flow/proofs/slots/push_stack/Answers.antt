use Rattle.std.proofs.Common.{◌≡◌, ◌∙◌, ◌++◌, ◌∷◌, [], slice_get, ap, arith}
use Rattle.plan_flow.specs.Inner.Fitting.{or_plain}
use Rattle.plan_flow.proofs.Fitting.{stack_next}
use Rattle.virtual_state.specs.declared.slot.Slot.{Slot}
use Rattle.plan_flow.proofs.slots.push_stack.Goals as goal

pub loop-at-preserved : goal.loop-at-preserved
loop-at-preserved c =
    let types = c.args.types.now in
    let slots = c.args.stack.now in
    let at = c.loop-at.at in
    let slot : c.or_plain.result ≡ or_plain (slice_get slots at) = c.or_plain.ensures ∙ ap or_plain c.slot_at.ensures in
    stack_next c.args.slots.now.items c.loop-at.slots.items c.push.new.self.items types slots at _ c.loop-at.invariant c.loop-at-test.true (omega arith)
    (c.in_ok-push.ensures.items ∙ ap (λ (one : Slot). c.loop-at.slots.items ++ one ∷ []) slot)
