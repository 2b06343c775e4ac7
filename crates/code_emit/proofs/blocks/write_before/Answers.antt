use Rattle.std.proofs.Common.{option_map, sym, ap, subst, ◌∙◌}
use Rattle.class_tree.specs.Headers.{Classes, headers_of}
use Rattle.std.proofs.lemmas.Result.{on_ok_weaker}
use Rattle.code_drafts.specs.Laws.LedRoutes.{planned_can_make}
use Rattle.code_emit.proofs.EdgeLaws.{before_full, before_written}
use Rattle.code_emit.proofs.blocks.write_before.Goals as goal
use Rattle.member_link.specs.Machine.Links.{AreLinksOf}
use Rattle.plan_flow.specs.Plans.{Plan, PlannedPoint, planned}

pub write_make_block-requires-clause-make : goal.write_make_block-requires-clause-make
write_make_block-requires-clause-make c =
    let w = c.args.setting.now in
    let links = c.a_tree_has_links.ensures in
    let are = subst (λ (classes : Classes). AreLinksOf (headers_of classes) links.0) c.tree.ensures links.1 in
    let is_state = sym (c.in-Some-state.ensures ∙ ap (λ (plan : Plan). option_map (λ (point : PlannedPoint). point.state) (planned plan c.args.at)) c.plan-2.ensures) in
    let is_made = sym (c.in-Some.ensures ∙ ap (λ (plan : Plan). option_map (λ (point : PlannedPoint). point.made) (planned plan c.args.at)) c.plan.ensures) in
    planned_can_make w c.requires links.0 are c.args.at c.in-Some-state.state.now c.in-Some.made.now is_state is_made

pub returns-clause-ok : goal.returns-clause-ok
returns-clause-ok c =
    let w = c.args.setting.now in
    let is_state = sym (c.in-Some-state.ensures ∙ ap (λ (plan : Plan). option_map (λ (point : PlannedPoint). point.state) (planned plan c.args.at)) c.plan-2.ensures) in
    let is_made = sym (c.in-Some.ensures ∙ ap (λ (plan : Plan). option_map (λ (point : PlannedPoint). point.made) (planned plan c.args.at)) c.plan.ensures) in
    on_ok_weaker c.write_make_block.result
    (λ writes.
    before_written w c.args.at c.in-Some-state.state.now c.in-Some.made.now c.args.pool.now c.write_make_block.new.pool c.args.drafts.now c.write_make_block.new.drafts
    is_state is_made writes)
    c.write_make_block.ensures.ok

pub returns-clause-full : goal.returns-clause-full
returns-clause-full c = λ reason is.
    let w = c.args.setting.now in
    let is_state = sym (c.in-Some-state.ensures ∙ ap (λ (plan : Plan). option_map (λ (point : PlannedPoint). point.state) (planned plan c.args.at)) c.plan-2.ensures) in
    let is_made = sym (c.in-Some.ensures ∙ ap (λ (plan : Plan). option_map (λ (point : PlannedPoint). point.made) (planned plan c.args.at)) c.plan.ensures) in
    before_full w c.args.at c.in-Some-state.state.now c.in-Some.made.now c.args.pool.now reason is_state is_made (c.write_make_block.ensures.full reason is)
