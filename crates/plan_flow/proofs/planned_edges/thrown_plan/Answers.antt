use Rattle.std.proofs.Common.{◌<◌, ◌^◌, List, length, option_map, sym, ap, subst, ◌∙◌}
use Rattle.std.specs.Option.{option_copied}
use Rattle.std.proofs.lemmas.Option.{none-some, same_Some}
use Rattle.flow_code.specs.declared.handlers.FlatHandler.{FlatHandler}
use Rattle.flow_code.specs.declared.point.Point.{Point}
use Rattle.plan_flow.specs.Inner.Reaching.{reached_in}
use Rattle.plan_flow.specs.Inner.Sharing.{caught_made, caught_plans, made_in}
use Rattle.plan_flow.proofs.Narrows.{narrow_handlers}
use Rattle.plan_flow.proofs.OwnPlans.{plans_empty, plans_some}
use Rattle.plan_flow.proofs.PlanEdges.{none_thrown}
use Rattle.plan_flow.proofs.planned_edges.thrown_plan.Goals as goal

pub returns-then-is_empty-clause-edges : goal.returns-then-is_empty-clause-edges
returns-then-is_empty-clause-edges c = λ point is.
    plans_empty (reached_in c.args.states.now) point.handlers c.args.edges.now (sym c.is_empty.ensures ∙ c.if-is_empty.true)

pub returns-in_default-clause-edges : goal.returns-in_default-clause-edges
returns-in_default-clause-edges c = λ point is.
    absurd (none-some point.handlers (ap option_copied (sym c.in_default.is) ∙ c.handlers.ensures ∙ ap (option_map (λ (p : Point). p.handlers)) is))

pub of-requires : goal.of-requires
of-requires c =
    subst (λ (list : List FlatHandler). length list < 2 ^ 32) (sym c.in_ok-shared.ensures)
    (narrow_handlers c.args.flat.now c.args.at c.in-Some.handlers.now c.requires (sym c.handlers.ensures ∙ ap option_copied c.in-Some.is))

pub returns-clause-edges : goal.returns-clause-edges
returns-clause-edges c = λ point is.
    let states = reached_in c.args.states.now in
    let made = c.in_ok-made.made in
    let same = same_Some point.handlers c.in-Some.handlers.now
    (sym (ap (option_map (λ (p : Point). p.handlers)) is) ∙ sym c.handlers.ensures ∙ ap option_copied c.in-Some.is) in
    c.of.ensures.edges
    ∙ ap (λ (list : List FlatHandler). caught_made (made_in made) 0 list) (c.in_ok-shared.ensures ∙ sym same)
    ∙ plans_some states point.handlers c.args.edges.now made (sym c.is_empty.ensures ∙ c.if-is_empty.false) c.in_ok-made.ensures
