use Rattle.std.proofs.Common.{option_map, sym, ap, subst, ◌∙◌}
use Rattle.class_tree.specs.Headers.{Classes, headers_of}
use Rattle.code_drafts.specs.Laws.LedRoutes.{closed_at}
use Rattle.code_emit.proofs.blocks.left_at.Goals as goal
use Rattle.member_link.specs.Machine.Links.{AreLinksOf}
use Rattle.plan_flow.specs.Plans.{Plan, PlannedPoint, planned}

pub without-requires : goal.without-requires
without-requires c =
    let w = c.args.setting.now in
    let links = c.a_tree_has_links.ensures in
    let are = subst (λ (classes : Classes). AreLinksOf (headers_of classes) links.0) c.tree.ensures links.1 in
    let is_state = sym (c.in-Some-state.ensures ∙ ap (λ (plan : Plan). option_map (λ (point : PlannedPoint). point.state) (planned plan c.args.at)) c.plan-2.ensures) in
    let is_made = sym (c.in-Some.ensures ∙ ap (λ (plan : Plan). option_map (λ (point : PlannedPoint). point.made) (planned plan c.args.at)) c.plan.ensures) in
    closed_at w c.requires links.0 are c.args.at c.in-Some-state.state.now c.in-Some.made.now is_state is_made
