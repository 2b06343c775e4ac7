use Rattle.std.proofs.Common.{◌≡◌, ◌++◌, ◌≤◌, ℕ, List, Option, length, sym, ap, subst, ◌∙◌}
use Rattle.std.specs.Option.{option_copied}
use Rattle.class_model.specs.declared.frame.VType.{VType}
use Rattle.plan_flow.specs.Inner.Fitting.{IsKept}
use Rattle.plan_flow.specs.Inner.Fronts.{locals_held}
use Rattle.plan_flow.specs.Inner.RowViews.{stored_by}
use Rattle.plan_flow.specs.PlanScope.{scope_of}
use Rattle.plan_flow.specs.PlanSlots.{fit_locals, fit_stack}
use Rattle.plan_flow.proofs.DoneEdges.{can_be, is_behind, not_full, target_is}
use Rattle.plan_flow.proofs.LocalUnits.{locals_held_are}
use Rattle.plan_flow.proofs.Narrows.{narrow_locals}
use Rattle.virtual_state.specs.Making.{CanBeState}
use Rattle.virtual_state.specs.declared.slot.Slot.{Slot}
use Rattle.plan_flow.proofs.effects.state_over.Goals as goal

pub front_objects-requires : goal.front_objects-requires
front_objects-requires c = not_full c.args.tree.now c.args.flat.now c.args.at c.args.types.now c.args.row.now c.args.state.now c.requires.done

pub locals_behind-requires-clause-also : goal.locals_behind-requires-clause-also
locals_behind-requires-clause-also c =
    let target = target_is c.args.flat.now c.args.edge.to (option_copied c.typed.result) _ c.frame_or-target.result.now c.typed.ensures c.new.ensures c.new-2.ensures c.frame_or-target.ensures in
    subst (λ (types : List VType). length types ≤ 65536) (sym target.0) (narrow_locals c.args.flat.now c.args.edge.to c.requires.narrow)

pub state_behind-requires : goal.state_behind-requires
state_behind-requires c =
    let links = c.requires.done.links in
    let s = scope_of c.args.tree.now links c.args.flat.now in
    let f = c.args.types.now in
    let row = c.args.row.now in
    let state = c.args.state.now in
    let frame = c.frame_or-target.result.now in
    let target = target_is c.args.flat.now c.args.edge.to (option_copied c.typed.result) _ frame c.typed.ensures c.new.ensures c.new-2.ensures c.frame_or-target.ensures in
    let held = locals_held state f (stored_by row.stored c.args.edge.by) in
    let locals : c.in_ok-locals.locals ≡ fit_locals frame.locals held = c.in_ok-locals.ensures ∙ ap (λ (stored : Option ℕ). fit_locals frame.locals (locals_held state f stored)) c.stored_by-stored.ensures in
    let stack : c.as_slice-2.result.now ≡ frame.stack = c.as_slice-2.ensures in
    subst (λ (slots : List Slot). CanBeState slots (c.in_ok-front.front ++ state.objects)) (λ i. sym locals i ++ fit_stack (sym stack i) c.as_slice.result.now)
    (can_be s c.args.at c.requires.done.point f row state c.args.edge held c.as_slice.result.now c.in_ok-front.front frame c.requires.done.row_of
    (record {
      locals_are = locals_held_are s state f row c.args.edge.by;
      stack_is = c.as_slice.ensures.value ∙ c.in_ok-stack.ensures links;
      front_is = c.in_ok-front.ensures links;
      target_locals = target.0;
      target_stack = target.1;
    })
    c.is_state.ensures c.requires.done.asks_none)

pub returns : goal.returns
returns c = λ links point row_of.
    let s = scope_of c.args.tree.now links c.args.flat.now in
    let f = c.args.types.now in
    let row = c.args.row.now in
    let state = c.args.state.now in
    let frame = c.frame_or-target.result.now in
    let target = target_is c.args.flat.now c.args.edge.to (option_copied c.typed.result) _ frame c.typed.ensures c.new.ensures c.new-2.ensures c.frame_or-target.ensures in
    let held = locals_held state f (stored_by row.stored c.args.edge.by) in
    let locals : c.in_ok-locals.locals ≡ fit_locals frame.locals held = c.in_ok-locals.ensures ∙ ap (λ (stored : Option ℕ). fit_locals frame.locals (locals_held state f stored)) c.stored_by-stored.ensures in
    let stack : c.as_slice-2.result.now ≡ frame.stack = c.as_slice-2.ensures in
    is_behind s c.args.at point f row state c.args.edge held c.as_slice.result.now c.in_ok-front.front frame row_of
    (record {
      locals_are = locals_held_are s state f row c.args.edge.by;
      stack_is = c.as_slice.ensures.value ∙ c.in_ok-stack.ensures links;
      front_is = c.in_ok-front.ensures links;
      target_locals = target.0;
      target_stack = target.1;
    })
    c.in_ok-behind.behind
    (subst (λ (slots : List Slot). IsKept slots (c.in_ok-front.front ++ state.objects) c.in_ok-behind.behind) (λ i. locals i ++ fit_stack (stack i) c.as_slice.result.now) c.in_ok-behind.ensures)
