use Rattle.std.proofs.Common.{◌≡◌, ◌++◌, [], List, replicate, sym, ap, subst, ◌∙◌}
use Rattle.std.proofs.lemmas.List.{append-nil}
use Rattle.virtual_state.proofs.Reaching.{LookAlike, can_be_alike, state_of_alike}
use Rattle.virtual_state.specs.Making.{CanBeState, IsStateOf}
use Rattle.virtual_state.specs.States.{object_of}
use Rattle.virtual_state.specs.declared.slot.Slot.{Slot}
use Rattle.virtual_state.specs.declared.slot.VObject.{VObject}
use Rattle.virtual_state.specs.declared.slot.Slot.TheVariants.{Unusable}
use Rattle.virtual_state.proofs.state.VState.of.Goals as goal

pub reached_state-requires : goal.reached_state-requires
reached_state-requires c =
    let table = c.in_ok-table.table.value in
    let same : LookAlike table c.args.objects = λ site.
    ap (λ (list : List VObject). object_of list site) c.in_ok-table.ensures.ok
    ∙ c.in_ok-put_all.ensures site
    ∙ ap (λ (objects : List VObject). object_of (c.args.objects ++ objects) site) c.new-table.ensures
    ∙ ap (λ (objects : List VObject). object_of objects site) (append-nil c.args.objects) in
    let none : c.in_ok-front.front ≡ [] = c.in_ok-front.ensures ∙ ap (λ (list : List Slot). list ++ replicate 0 Unusable) c.new.ensures in
    let slots : c.in_ok-front.front ++ c.in_ok-back.back.value ≡ c.args.slots = λ i. none i ++ c.in_ok-back.ensures.ok i in
    subst (λ (list : List Slot). CanBeState list table) (sym slots) (can_be_alike c.args.slots table c.args.objects same c.requires)

pub returns : goal.returns
returns c =
    let table = c.in_ok-table.table.value in
    let same : LookAlike table c.args.objects = λ site.
    ap (λ (list : List VObject). object_of list site) c.in_ok-table.ensures.ok
    ∙ c.in_ok-put_all.ensures site
    ∙ ap (λ (objects : List VObject). object_of (c.args.objects ++ objects) site) c.new-table.ensures
    ∙ ap (λ (objects : List VObject). object_of objects site) (append-nil c.args.objects) in
    let none : c.in_ok-front.front ≡ [] = c.in_ok-front.ensures ∙ ap (λ (list : List Slot). list ++ replicate 0 Unusable) c.new.ensures in
    let slots : c.in_ok-front.front ++ c.in_ok-back.back.value ≡ c.args.slots = λ i. none i ++ c.in_ok-back.ensures.ok i in
    state_of_alike c.args.slots table c.args.objects c.in_ok-state.state same
    (subst (λ (list : List Slot). IsStateOf list table c.in_ok-state.state) slots c.in_ok-state.ensures)
