use Rattle.std.proofs.Common.{List, sym, subst}
use Rattle.virtual_state.proofs.Joining.{marks_join}
use Rattle.virtual_state.specs.Inner.Agreement.{HasMarkedDifferences, HaveMarkedObjects}
use Rattle.virtual_state.specs.Inner.Marks.{HasSpread}
use Rattle.virtual_state.specs.Orders.{IsJoin}
use Rattle.virtual_state.specs.Sites.{has}
use Rattle.virtual_state.specs.Without.{IsClosed}
use Rattle.virtual_state.specs.declared.slot.VObject.{VObject}
use Rattle.virtual_state.proofs.merge.join.Goals as goal

pub take_away-requires : goal.take_away-requires
take_away-requires c = subst (IsClosed (has c.spread.new.sites)) c.objects-3.ensures c.in_ok-spread.ensures.in_one

pub returns : goal.returns
returns c =
    let none = c.new-away.result in
    let slots = c.mark_places.new.away in
    let objects = c.mark_objects.new.away in
    let sites = c.spread.new.sites in
    let state = c.args.state.now in
    let other = c.args.other.now in
    let first : HasMarkedDifferences none slots state.slots other.slots = c.in_ok-mark_places.ensures in
    let second = subst (λ (list : List VObject). HaveMarkedObjects slots objects state.objects list) c.objects-2.ensures (subst (λ (list : List VObject). HaveMarkedObjects slots objects list c.objects-2.result.now) c.objects.ensures c.in_ok-mark_objects.ensures) in
    let third = subst (λ (list : List VObject). HasSpread objects sites state.objects list) c.objects-4.ensures (subst (λ (list : List VObject). HasSpread objects sites list c.objects-4.result.now) c.objects-3.ensures c.in_ok-spread.ensures) in
    subst (IsJoin state other) (sym c.in_ok-joined.ensures) (marks_join state other none slots objects sites c.is_state.ensures c.is_state-2.ensures c.new-away.ensures first second third)
