use Rattle.std.proofs.Common.{◌≡◌, false, ap, sym, subst, ◌∙◌, rules}
use Rattle.std.specs.List.{list_any}
use Rattle.std.specs.Option.{option_copied}
use Rattle.class_model.specs.Frames.{is_top}
use Rattle.plan_flow.specs.Inner.Asking.{HasAdded, IsBeneath}
use Rattle.plan_flow.specs.Inner.EdgeViews.{row_edge}
use Rattle.plan_flow.specs.Inner.RowViews.{plan_row}
use Rattle.plan_flow.specs.PlanScope.{scope_of, stack_types}
use Rattle.plan_flow.specs.PlanSlots.{fit_stack, stack_slots}
use Rattle.plan_flow.proofs.Adding.{added_none}
use Rattle.plan_flow.proofs.TopEntries.{none_beneath, stack_of, target_types}
use Rattle.plan_flow.proofs.beneath.add_behind.Goals as goal

pub returns-in_default : goal.returns-in_default
returns-in_default c = λ links.
    let flat = c.args.flat.now in
    let types = stack_types flat c.args.edge.to in
    let slots = stack_slots (scope_of c.args.tree.now links flat) c.args.state.now (plan_row c.args.types.now c.args.row.now) (row_edge c.args.edge) in
    let none : list_any is_top types ≡ false = ap (list_any is_top) (target_types flat c.args.edge.to (option_copied c.typed.result) c.typed.ensures ∙ ap stack_of (ap option_copied c.in_default.is)) in
    added_none c.args.sites.now (IsBeneath c.args.state.now types slots) (λ site beneath. none_beneath c.args.state.now types slots none site beneath)

pub returns-then-not-has_top : goal.returns-then-not-has_top
returns-then-not-has_top c = λ links.
    let flat = c.args.flat.now in
    let types = stack_types flat c.args.edge.to in
    let slots = stack_slots (scope_of c.args.tree.now links flat) c.args.state.now (plan_row c.args.types.now c.args.row.now) (row_edge c.args.edge) in
    let no : c.has_top.result ≡ false = search rules in
    let none : list_any is_top types ≡ false =
    ap (list_any is_top) (target_types flat c.args.edge.to (option_copied c.typed.result) c.typed.ensures ∙ ap stack_of (ap option_copied c.in-Some.is) ∙ sym c.as_slice-target.ensures)
    ∙ sym c.has_top.ensures ∙ no in
    added_none c.args.sites.now (IsBeneath c.args.state.now types slots) (λ site beneath. none_beneath c.args.state.now types slots none site beneath)

pub returns : goal.returns
returns c = λ links.
    let flat = c.args.flat.now in
    let state = c.args.state.now in
    let target = sym (target_types flat c.args.edge.to (option_copied c.typed.result) c.typed.ensures ∙ ap stack_of (ap option_copied c.in-Some.is) ∙ sym c.as_slice-target.ensures) in
    let entries = c.as_slice.ensures.value ∙ c.in_ok-entries.ensures links in
    subst (λ (T : Type 0). T) (λ i. HasAdded c.args.sites.now c.add_entries.new.sites (IsBeneath state (target i) (fit_stack (target i) (entries i)))) c.in_ok-add_entries.ensures
