use Rattle.std.proofs.Common.{◌<◌, ◌≤◌, get_or, length, sym, ap, subst, ◌∙◌, arith}
use Rattle.virtual_state.proofs.Agreeing.{differences_all, differences_more, same_len, same_unusable}
use Rattle.virtual_state.specs.Inner.Agreement.{HasMarkedPair}
use Rattle.virtual_state.specs.States.{is_unusable}
use Rattle.virtual_state.specs.declared.slot.Slot.{Slot}
use Rattle.virtual_state.proofs.merge.mark_places.Goals as goal

pub mark_pair-requires : goal.mark_pair-requires
mark_pair-requires c =
    ap is_unusable c.place.ensures
    ∙ same_unusable c.args.state.now.slots c.args.other.now.slots c.loop-at.at c.requires
    ∙ sym (ap is_unusable c.place-in-loop-at.ensures)

pub loop-at-preserved : goal.loop-at-preserved
loop-at-preserved c =
    let slots = c.args.state.now.slots in
    let others = c.args.other.now.slots in
    let len = c.len-at-end.ensures in
    let test = c.loop-at-test.true in
    let low : c.loop-at.at < length slots = omega (arith, len, test) in
    let also : c.loop-at.at < length others = omega (arith, low, same_len slots others c.requires) in
    let pair = subst (λ (slot : Slot). HasMarkedPair c.loop-at.away c.mark_pair.new.away slot (get_or others c.loop-at.at Slot.Plain)) c.place.ensures
    (subst (HasMarkedPair c.loop-at.away c.mark_pair.new.away c.place.result) c.place-in-loop-at.ensures c.in_ok-mark_pair.ensures) in
    differences_more c.args.away.now c.loop-at.away c.mark_pair.new.away slots others c.loop-at.at low also c.loop-at.invariant pair

pub returns : goal.returns
returns c =
    let slots = c.args.state.now.slots in
    let others = c.args.other.now.slots in
    let len = c.len-at-end.ensures in
    let test = c.loop-at-test.false in
    let past : length slots ≤ c.loop-at.at = omega (arith, len, test) in
    let also : length others ≤ c.loop-at.at = omega (arith, past, same_len slots others c.requires) in
    differences_all c.args.away.now c.loop-at.away slots others c.loop-at.at past also c.loop-at.invariant
