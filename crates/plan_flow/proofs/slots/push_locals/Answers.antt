use Rattle.std.proofs.Common.{◌≡◌, ◌∙◌, ◌++◌, ◌∷◌, [], slice_get, ap, arith}
use Rattle.plan_flow.specs.Inner.Fitting.{local_of}
use Rattle.plan_flow.proofs.Fitting.{locals_next}
use Rattle.virtual_state.specs.declared.slot.Slot.{Slot}
use Rattle.plan_flow.proofs.slots.push_locals.Goals as goal

pub loop-at-preserved : goal.loop-at-preserved
loop-at-preserved c =
    let types = c.args.types.now.locals in
    let slots = c.args.locals.now in
    let at = c.loop-at.at in
    let slot : c.local_slot.result ≡ local_of (slice_get types at) (slice_get slots at) = c.local_slot.ensures ∙ (λ i. local_of (c.get.ensures i) (c.slot_at.ensures i)) in
    locals_next c.args.slots.now.items c.loop-at.slots.items c.push.new.self.items types slots at _ c.loop-at.invariant (omega (arith, c.loop-at-test.true, c.len-at-end.ensures)) (omega arith)
    (c.in_ok-push.ensures.items ∙ ap (λ (one : Slot). c.loop-at.slots.items ++ one ∷ []) slot)
