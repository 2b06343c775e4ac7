use Rattle.std.proofs.Common.{sym, subst, ◌∙◌}
use Rattle.std.proofs.lemmas.Result.{on_ok_weaker}
use Rattle.code_drafts.specs.LedEdges.{IsStateOn}
use Rattle.code_drafts.specs.Writable.{scope}
use Rattle.code_emit.proofs.EdgeLaws.{edge_nowhere, edge_there, no_next, no_sites, no_state, none_next, onwards_full, onwards_written, planned_by}
use Rattle.code_emit.proofs.PointLaws.{none_written}
use Rattle.code_emit.proofs.blocks.write_onwards.Goals as goal
use Rattle.code_emit.specs.Inner.PointBlocks.{onward_blocks}
use Rattle.plan_flow.specs.Written.Routes.{edge_by}
use Rattle.plan_flow.specs.declared.edge.EdgeKind.TheVariants.{Next}

pub returns-in_default-clause-ok : goal.returns-in_default-clause-ok
returns-in_default-clause-ok c =
    let w = c.args.setting.now in
    let at = c.args.at in
    let given = planned_by c.plan.result.now w.plan at Next c.edge_by.result c.edge_by.ensures c.plan.ensures in
    none_written w at onward_blocks c.args.pool.now c.args.drafts.now
    (λ links constructor point route reached.
    no_next (scope w links) at (edge_by route Next) (edge_nowhere w c.requires.can at Next c.edge_by.result links route given c.in_default.is reached.meant.is_links reached.here))

pub returns-then-is_empty-clause-ok : goal.returns-then-is_empty-clause-ok
returns-then-is_empty-clause-ok c =
    let w = c.args.setting.now in
    let at = c.args.at in
    let edge = c.in-Some.edge in
    let given = planned_by c.plan.result.now w.plan at Next c.edge_by.result c.edge_by.ensures c.plan.ensures in
    none_written w at onward_blocks c.args.pool.now c.args.drafts.now
    (λ links constructor point route reached.
    none_next (scope w links) at (edge_by route Next) edge.to edge.made.now
    (edge_there w c.requires.can at Next c.edge_by.result edge links route given c.in-Some.is reached.meant.is_links reached.here)
    (no_sites edge.made.now (sym c.is_empty.ensures ∙ c.if-is_empty.true)))

pub returns-in_default-2-clause-ok : goal.returns-in_default-2-clause-ok
returns-in_default-2-clause-ok c =
    let w = c.args.setting.now in
    let at = c.args.at in
    let state = subst (IsStateOn w at Next) c.in_default-2.is c.in_ok-behind.ensures in
    none_written w at onward_blocks c.args.pool.now c.args.drafts.now
    (λ links constructor point route reached.
    no_next (scope w links) at (edge_by route Next) (no_state w c.requires.can at Next links route state reached.meant.is_links reached.here))

pub returns-clause-ok : goal.returns-clause-ok
returns-clause-ok c =
    let w = c.args.setting.now in
    let at = c.args.at in
    let given = planned_by c.plan.result.now w.plan at Next c.edge_by.result c.edge_by.ensures c.plan.ensures in
    let state = subst (IsStateOn w at Next) c.in-Some-2.is c.in_ok-behind.ensures in
    on_ok_weaker c.write_make_block-written.result
    (λ writes.
    onwards_written w c.requires.can at c.edge_by.result c.in-Some.edge c.in-Some-2.behind c.args.pool.now c.write_make_block-written.new.pool c.args.drafts.now
    c.write_make_block-written.new.drafts given c.in-Some.is state writes)
    c.write_make_block-written.ensures.ok

pub returns-clause-full : goal.returns-clause-full
returns-clause-full c = λ reason is.
    let w = c.args.setting.now in
    let at = c.args.at in
    let given = planned_by c.plan.result.now w.plan at Next c.edge_by.result c.edge_by.ensures c.plan.ensures in
    let state = subst (IsStateOn w at Next) c.in-Some-2.is c.in_ok-behind.ensures in
    onwards_full w c.requires.can at c.edge_by.result c.in-Some.edge c.in-Some-2.behind c.args.pool.now reason given c.in-Some.is state
    (c.write_make_block-written.ensures.full reason is)
