use Rattle.std.proofs.Common.{◌≡◌, ◌<◌, ◌++◌, ◌∷◌, [], ℕ, List, true, false, length, get_or, sym, ap, ◌∙◌, arith}
use Rattle.virtual_state.specs.Laws.Gaps.{none_more, one_more}
use Rattle.virtual_state.specs.States.{is_unusable}
use Rattle.virtual_state.specs.declared.slot.Slot.{Slot}
use Rattle.virtual_state.proofs.listed.gaps_among.Goals as goal
use Rattle.virtual_state.proofs.listed.gaps_among.Goals.{then-is_unusable+in_ok-push, else-is_unusable}

pub loop-at-preserved : goal.loop-at-preserved
loop-at-preserved c =
    let slots = c.args.slots.now in
    let at = c.loop-at.at in
    let test = c.loop-at-test.true in
    let low : at < length slots = omega (arith, test) in
    elim c.if-is_unusable.branch [
      | then-is_unusable+in_ok-push w ↦
          let told : is_unusable (get_or slots at Slot.Plain) ≡ true = sym c.is_unusable.ensures ∙ w.if-is_unusable.true in
          rw w.gaps-is (w.in_ok-push.ensures.items ∙ ap (λ (list : List ℕ). list ++ at ∷ []) c.loop-at.invariant ∙ sym (one_more is_unusable slots at Slot.Plain low told))
      | else-is_unusable w ↦
          let told : is_unusable (get_or slots at Slot.Plain) ≡ false = sym c.is_unusable.ensures ∙ w.if-is_unusable.false in
          rw w.gaps-is (c.loop-at.invariant ∙ sym (none_more is_unusable slots at Slot.Plain low told))
    ]
