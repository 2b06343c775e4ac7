use Rattle.std.proofs.Common.{◌≡◌, ◌++◌, map, sym, ap, subst, ◌∙◌}
use Rattle.std.proofs.lemmas.List.{map-append}
use Rattle.virtual_state.proofs.Filling.{empty_takes_none}
use Rattle.virtual_state.specs.Laws.Removals.{without_is_state}
use Rattle.virtual_state.specs.Sites.{has}
use Rattle.virtual_state.specs.States.{State, IsState}
use Rattle.virtual_state.specs.Without.{made_plain, objects_without, without}
use Rattle.virtual_state.proofs.removal.take_away.Goals as goal

pub returns-then-is_empty : goal.returns-then-is_empty
returns-then-is_empty c = c.in_ok-same.ensures ∙ sym (empty_takes_none c.args.state.now c.args.away.now (sym c.is_empty.ensures ∙ c.if-is_empty.true))

pub from_parts-requires : goal.from_parts-requires
from_parts-requires c =
    let away = has c.args.away.now in
    let made = map (made_plain away) in
    let parts = c.slot_parts.result in
    let slots : c.in_ok-front.front ++ c.in_ok-back.back.value ≡ made c.args.state.now.slots =
    (λ i. c.in_ok-front.ensures i ++ c.in_ok-back.ensures i)
    ∙ sym (map-append (made_plain away) parts.0.now parts.1.now.value)
    ∙ ap made (sym c.slot_parts.ensures) in
    let objects : c.in_ok-objects-2.objects.value ≡ objects_without away c.args.state.now.objects = c.in_ok-objects-2.ensures.ok ∙ c.in_ok-objects.ensures ∙ ap (objects_without away) c.objects.ensures in
    let whole : ◌≡◌ {A = State} (record { slots = c.in_ok-front.front ++ c.in_ok-back.back.value; objects = c.in_ok-objects-2.objects.value }) (without c.args.state.now away) = λ i. record { slots = slots i; objects = objects i } in
    subst IsState (sym whole) (without_is_state c.args.state.now away c.is_state.ensures c.requires)
