use Rattle.std.proofs.Common.{◌≡◌, ◌++◌, [], List, refl, sym, subst, ◌∙◌}
use Rattle.virtual_state.proofs.Fronts.{both_marked}
use Rattle.virtual_state.proofs.Reaching.{AreReached, search_reaches, reached_is_state, reached_is_of}
use Rattle.virtual_state.specs.Inner.Filling.{of_sites}
use Rattle.virtual_state.specs.Inner.Marks.{HasMarked, HasSpread}
use Rattle.virtual_state.specs.Making.{IsStateOf}
use Rattle.virtual_state.specs.Sites.{has}
use Rattle.virtual_state.specs.States.{State, IsIncreasing, IsState, names, sites_of}
use Rattle.virtual_state.specs.declared.slot.Slot.{Slot}
use Rattle.virtual_state.specs.declared.slot.VObject.{VObject}
use Rattle.virtual_state.proofs.making.reached_state.Goals as goal

pub from_parts-requires : goal.from_parts-requires
from_parts-requires c =
    let all = c.args.front ++ c.args.back.value in
    let table = c.args.table.now.value in
    let held = c.held.result.now in
    let start = c.mark_slots-2.new.self in
    let back = subst (λ (slots : List Slot). HasMarked c.mark_slots.new.self start (names slots)) (c.as_slice.ensures ∙ c.deref.ensures) c.in_ok-mark_slots-2.ensures in
    let marked : HasMarked [] start (names all) = both_marked c.args.front c.args.back.value held c.new-reached.result c.mark_slots.new.self start c.new-reached.ensures c.held.ensures c.in_ok-mark_slots.ensures back in
    let reached : AreReached all table c.spread.new.sites = search_reaches all table [] start c.spread.new.sites refl marked
    (subst (λ (one : List VObject). HasSpread start c.spread.new.sites one table) c.as_ref.ensures
    (subst (λ (other : List VObject). HasSpread start c.spread.new.sites c.as_ref.result.now other) c.as_ref-2.ensures c.in_ok-spread.ensures)) in
    let objects : c.in_ok-objects.objects.value ≡ of_sites (has c.spread.new.sites) table = c.in_ok-objects.ensures in
    let whole : ◌≡◌ {A = State} (record { slots = all; objects = c.in_ok-objects.objects.value }) (record { slots = all; objects = of_sites (has c.spread.new.sites) table }) = λ i. record { slots = all; objects = objects i } in
    subst IsState (sym whole) (reached_is_state all table c.spread.new.sites (subst (λ (list : List VObject). IsIncreasing (sites_of list)) c.as_ref-3.ensures c.is_in_order.ensures) c.requires reached)

pub returns : goal.returns
returns c =
    let all = c.args.front ++ c.args.back.value in
    let table = c.args.table.now.value in
    let held = c.held.result.now in
    let start = c.mark_slots-2.new.self in
    let back = subst (λ (slots : List Slot). HasMarked c.mark_slots.new.self start (names slots)) (c.as_slice.ensures ∙ c.deref.ensures) c.in_ok-mark_slots-2.ensures in
    let marked : HasMarked [] start (names all) = both_marked c.args.front c.args.back.value held c.new-reached.result c.mark_slots.new.self start c.new-reached.ensures c.held.ensures c.in_ok-mark_slots.ensures back in
    let reached : AreReached all table c.spread.new.sites = search_reaches all table [] start c.spread.new.sites refl marked
    (subst (λ (one : List VObject). HasSpread start c.spread.new.sites one table) c.as_ref.ensures
    (subst (λ (other : List VObject). HasSpread start c.spread.new.sites c.as_ref.result.now other) c.as_ref-2.ensures c.in_ok-spread.ensures)) in
    let objects : c.in_ok-objects.objects.value ≡ of_sites (has c.spread.new.sites) table = c.in_ok-objects.ensures in
    let whole : ◌≡◌ {A = State} (record { slots = all; objects = c.in_ok-objects.objects.value }) (record { slots = all; objects = of_sites (has c.spread.new.sites) table }) = λ i. record { slots = all; objects = objects i } in
    subst (IsStateOf all table) (sym (c.from_parts.ensures ∙ whole)) (reached_is_of all table c.spread.new.sites reached)
