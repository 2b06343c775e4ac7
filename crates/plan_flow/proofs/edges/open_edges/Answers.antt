use Rattle.std.proofs.Common.{◌<◌, ◌^◌, List, length, option_map, sym, ap, subst, ◌∙◌, refl, rules}
use Rattle.std.specs.Option.{option_copied}
use Rattle.std.proofs.lemmas.Option.{none-some, same_Some}
use Rattle.flow_code.specs.declared.handlers.FlatHandler.{FlatHandler}
use Rattle.flow_code.specs.declared.point.Point.{Point}
use Rattle.plan_flow.specs.Inner.EdgeViews.{IsOpened}
use Rattle.plan_flow.specs.Inner.RowViews.{plan_row}
use Rattle.plan_flow.specs.PlanTable.{falls_on, next_edges}
use Rattle.plan_flow.specs.declared.edges.GuardedEdge.{GuardedEdge}
use Rattle.plan_flow.proofs.Narrows.{narrow_handlers, narrow_targets, point_inside}
use Rattle.plan_flow.proofs.Opening.{opened_all}
use Rattle.plan_flow.proofs.edges.open_edges.Goals as goal

pub returns-in_default : goal.returns-in_default
returns-in_default c = λ types point is same.
    absurd (none-some point.handlers (ap option_copied (sym c.in_default.is) ∙ c.handlers.ensures ∙ ap (option_map (λ (p : Point). p.handlers)) is))

pub push_next-requires : goal.push_next-requires
push_next-requires c =
    let low = point_inside c.args.flat.now c.args.at c.args.instr.now c.requires.instr in
    let end = c.len-end.ensures.len in
    search rules

pub push_jumps-requires : goal.push_jumps-requires
push_jumps-requires c = narrow_targets c.args.flat.now c.args.at c.args.instr.now c.requires.narrow c.requires.instr

pub push_caught-requires : goal.push_caught-requires
push_caught-requires c =
    subst (λ (list : List FlatHandler). length list < 2 ^ 32) (sym c.as_slice.ensures)
    (narrow_handlers c.args.flat.now c.args.at c.in-Some.handlers.now c.requires.narrow (sym c.handlers.ensures ∙ ap option_copied c.in-Some.is))

pub returns : goal.returns
returns c = λ types point is same.
    let row = plan_row types c.args.row.now in
    let handlers = same_Some point.handlers c.in-Some.handlers.now (sym (ap (option_map (λ (p : Point). p.handlers)) is) ∙ sym c.handlers.ensures ∙ ap option_copied c.in-Some.is) in
    opened_all (option_copied c.args.shared) c.args.state.now c.args.at point row c.args.instr.now c.as_slice.result.now same (handlers ∙ sym c.as_slice.ensures)
    (subst (λ (list : List GuardedEdge). IsOpened c.args.state.now list c.push_next.new.edges.items (next_edges c.args.at row (falls_on c.args.instr.now))) c.new-edges.ensures.items (c.in_ok-push_next.ensures row refl))
    (c.in_ok-push_jumps.ensures row refl) c.in_ok-push_caught.ensures
