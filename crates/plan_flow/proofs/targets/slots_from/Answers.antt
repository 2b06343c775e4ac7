use Rattle.std.proofs.Common.{◌≡◌, ◌<◌, ◌≤◌, ◌++◌, List, [], ◌∷◌, drop, get_or, length, take, sym, ap, ◌∙◌, arith}
use Rattle.std.proofs.lemmas.List.{drop-append-le, length-take-le, take_more}
use Rattle.std.proofs.lemmas.Option.{slice_get-get_or}
use Rattle.plan_flow.specs.Inner.Fitting.{or_plain}
use Rattle.virtual_state.specs.declared.slot.Slot.{Slot}
use Rattle.virtual_state.specs.declared.slot.Slot.TheVariants.{Plain}
use Rattle.plan_flow.proofs.targets.slots_from.Goals as goal

pub loop-at-preserved : goal.loop-at-preserved
loop-at-preserved c =
    let slots = c.args.state.now.slots in
    let at = c.loop-at.at in
    let first = c.args.first in
    let test = c.loop-at-test.true in
    let len = c.len-at-end.ensures in
    let inside : at < length slots = omega (arith, test, len) in
    let before : first ≤ at = c.loop-at.auto.at in
    let taken : length (take at slots) ≡ at = length-take-le at slots (omega (arith, inside)) in
    let here : c.or_plain.result ≡ get_or slots at Plain = c.or_plain.ensures ∙ ap or_plain (c.slot.ensures ∙ slice_get-get_or slots at Plain inside) in
    c.in_ok-push.ensures.items
    ∙ (λ i. c.loop-at.invariant i ++ here i ∷ [])
    ∙ sym (drop-append-le first (take at slots) (get_or slots at Plain ∷ []) (omega (arith, before, taken)))
    ∙ ap (λ (list : List Slot). drop first list) (sym (take_more slots at Plain inside))
