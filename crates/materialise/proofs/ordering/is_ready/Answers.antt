use Rattle.std.proofs.Common.{not, List, sym, ap, ◌∙◌}
use Rattle.std.specs.List.{list_any}
use Rattle.making_code.specs.MakeOrder.{left_of}
use Rattle.making_code.specs.Laws.MakeOrders.{names_of_none, names_of_some}
use Rattle.materialise.proofs.OrderLaws.{pending_names}
use Rattle.materialise.specs.Inner.OrderWords.{is_pending}
use Rattle.virtual_state.specs.declared.slot.Slot.{Slot}
use Rattle.virtual_state.specs.declared.slot.VObject.{VObject}
use Rattle.materialise.proofs.ordering.is_ready.Goals as goal

pub returns-in-Some : goal.returns-in-Some
returns-in-Some c =
    let sites = c.args.sites.now in
    let made = c.args.made.now in
    let object = c.in-Some.object.now.value in
    let fields = c.as_slice.ensures ∙ ap (λ (o : VObject). o.fields) c.deref.ensures in
    ap not
    (c.name_pending.ensures
    ∙ ap (λ (slots : List Slot). list_any (is_pending sites made) slots) fields
    ∙ pending_names sites made object.fields
    ∙ sym (names_of_some c.args.state.now.objects (left_of sites made) c.args.site object (sym c.in-Some.ensures)))

pub returns-in-None : goal.returns-in-None
returns-in-None c =
    ap not (sym (names_of_none c.args.state.now.objects (left_of c.args.sites.now c.args.made.now) c.args.site (sym c.in-None.ensures)))
