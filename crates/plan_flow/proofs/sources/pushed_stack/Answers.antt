use Rattle.std.proofs.Common.{◌++◌, List, length, sym, ap, ◌∙◌}
use Rattle.std.proofs.lemmas.List.{map-append}
use Rattle.plan_flow.specs.Inner.RowViews.{change_of, given_by}
use Rattle.plan_flow.specs.PlanScope.{scope_of}
use Rattle.plan_flow.specs.PlanSlots.{slot_from, slots_from}
use Rattle.plan_flow.specs.PlanTable.{held_from}
use Rattle.virtual_state.specs.declared.slot.Slot.{Slot}
use Rattle.plan_flow.proofs.sources.pushed_stack.Goals as goal

pub returns : goal.returns
returns c = λ links.
    let s = scope_of c.args.tree.now links c.args.flat.now in
    let f = c.args.types.now in
    let state = c.args.state.now in
    let row = c.args.row.now in
    let by = change_of row.change in
    c.in_ok-push_given.ensures links
    ∙ ap (λ (list : List Slot). list ++ slots_from s state by (given_by f row.gives))
    (c.in_ok-push_held.ensures s by ∙ (λ i. c.new-list.ensures.items i ++ slots_from s state by (held_from (c.len.ensures i) row.kept)))
    ∙ sym (map-append (slot_from s state by) (held_from (length f.locals) row.kept) (given_by f row.gives))
