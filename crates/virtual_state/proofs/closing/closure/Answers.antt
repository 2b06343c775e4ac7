use Rattle.std.proofs.Common.{List, ℕ, subst}
use Rattle.virtual_state.proofs.ClosedSets.{spread_is_closure}
use Rattle.virtual_state.specs.Inner.Marks.{HasMarked, HasSpread}
use Rattle.virtual_state.specs.Sites.{has}
use Rattle.virtual_state.specs.declared.slot.VObject.{VObject}
use Rattle.virtual_state.proofs.closing.closure.Goals as goal

pub returns : goal.returns
returns c =
    let none = c.new-reached.result in
    let start = c.mark_all.new.self in
    let reached = c.spread.new.sites in
    let state = c.args.state.now in
    let marked = subst (λ (list : List ℕ). HasMarked none start (has list)) c.as_slice.ensures.sites c.in_ok-mark_all.ensures in
    let spread = subst (λ (list : List VObject). HasSpread start reached state.objects list) c.objects-2.ensures (subst (λ (list : List VObject). HasSpread start reached list c.objects-2.result.now) c.objects.ensures c.in_ok-spread.ensures) in
    spread_is_closure none start reached c.args.sites.now c.in_ok-closed.closed state.objects c.new-reached.ensures marked spread c.in_ok-closed.ensures
