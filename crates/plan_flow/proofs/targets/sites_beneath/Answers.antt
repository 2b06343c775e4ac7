use Rattle.std.proofs.Common.{◌≡◌, ℕ, false, List, drop, length, sym, ap, subst, ◌∙◌, rules}
use Rattle.std.specs.List.{list_any}
use Rattle.std.specs.Option.{option_copied}
use Rattle.class_model.specs.Frames.{is_top}
use Rattle.plan_flow.specs.Inner.Asking.{HasAdded, IsBeneath}
use Rattle.plan_flow.specs.PlanSlots.{fit_stack}
use Rattle.virtual_state.specs.Sites.{has}
use Rattle.plan_flow.proofs.Cleaning.{types_of, none_there, some_there}
use Rattle.plan_flow.proofs.targets.sites_beneath.Goals as goal

pub returns-then-not-has_top : goal.returns-then-not-has_top
returns-then-not-has_top c = λ site.
    let types = c.in-Some.types.now in
    let are = types_of c.args.flat.now c.args.at types (sym c.typed.ensures ∙ ap option_copied c.in-Some.is) in
    let no : c.has_top.result ≡ false = search rules in
    let none = ap (list_any is_top) (sym c.as_slice-stack.ensures) ∙ sym c.has_top.ensures ∙ no in
    ap (λ (list : List ℕ). has list site) c.new-sites.ensures
    ∙ none_there c.args.flat.now c.args.at c.args.state.now types.locals types.stack are none site

pub returns : goal.returns
returns c =
    let types = c.in-Some.types.now in
    let state = c.args.state.now in
    let entries = c.as_slice.result.now in
    let are = types_of c.args.flat.now c.args.at types (sym c.typed.ensures ∙ ap option_copied c.in-Some.is) in
    let stack_is = c.as_slice-stack.ensures in
    let entries_are : entries ≡ drop (length types.locals) state.slots =
    c.as_slice.ensures.value ∙ c.in_ok-entries.ensures ∙ (λ i. drop (c.len.ensures i) state.slots) in
    let after = c.add_entries.new.sites in
    some_there c.args.flat.now c.args.at state types.locals types.stack entries after c.is_state.ensures are entries_are
    (subst (λ (T : Type 0). T)
    (λ i. HasAdded (c.new-sites.ensures i) after (IsBeneath state (stack_is i) (fit_stack (stack_is i) entries)))
    c.in_ok-add_entries.ensures)
