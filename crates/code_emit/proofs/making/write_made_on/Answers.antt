use Rattle.std.proofs.Common.{sym, subst, ◌∙◌}
use Rattle.std.proofs.lemmas.Result.{on_ok_weaker}
use Rattle.code_drafts.specs.LedEdges.{IsStateOn}
use Rattle.code_drafts.specs.Writable.{making_on, scope}
use Rattle.code_emit.proofs.EdgeLaws.{edge_emits, edge_full, edge_nowhere, edge_there, no_sites, no_state, none_made_on, none_on, planned_by}
use Rattle.code_emit.proofs.InstructionLaws.{none_emitted}
use Rattle.code_emit.proofs.making.write_made_on.Goals as goal
use Rattle.plan_flow.specs.Written.Routes.{edge_by}

pub returns-in_default-clause-ok : goal.returns-in_default-clause-ok
returns-in_default-clause-ok c =
    let w = c.args.setting.now in
    let at = c.args.at in
    let by = c.args.by in
    let given = planned_by c.plan.result.now w.plan at by c.edge_by.result c.edge_by.ensures c.plan.ensures in
    none_emitted w at (λ s n point route. making_on s (edge_by route by)) c.args.pool.now c.args.kept.now
    (λ links constructor point route reached.
    none_on (scope w links) (edge_by route by) (edge_nowhere w c.requires.can at by c.edge_by.result links route given c.in_default.is reached.meant.is_links reached.here))

pub returns-then-is_empty-clause-ok : goal.returns-then-is_empty-clause-ok
returns-then-is_empty-clause-ok c =
    let w = c.args.setting.now in
    let at = c.args.at in
    let by = c.args.by in
    let edge = c.in-Some.edge in
    let given = planned_by c.plan.result.now w.plan at by c.edge_by.result c.edge_by.ensures c.plan.ensures in
    none_emitted w at (λ s n point route. making_on s (edge_by route by)) c.args.pool.now c.args.kept.now
    (λ links constructor point route reached.
    none_made_on (scope w links) (edge_by route by) edge.to edge.made.now
    (edge_there w c.requires.can at by c.edge_by.result edge links route given c.in-Some.is reached.meant.is_links reached.here)
    (no_sites edge.made.now (sym c.is_empty.ensures ∙ c.if-is_empty.true)))

pub returns-in_default-2-clause-ok : goal.returns-in_default-2-clause-ok
returns-in_default-2-clause-ok c =
    let w = c.args.setting.now in
    let at = c.args.at in
    let by = c.args.by in
    let state = subst (IsStateOn w at by) c.in_default-2.is c.in_ok-behind.ensures in
    none_emitted w at (λ s n point route. making_on s (edge_by route by)) c.args.pool.now c.args.kept.now
    (λ links constructor point route reached.
    none_on (scope w links) (edge_by route by) (no_state w c.requires.can at by links route state reached.meant.is_links reached.here))

pub returns-clause-ok : goal.returns-clause-ok
returns-clause-ok c =
    let w = c.args.setting.now in
    let at = c.args.at in
    let by = c.args.by in
    let given = planned_by c.plan.result.now w.plan at by c.edge_by.result c.edge_by.ensures c.plan.ensures in
    let state = subst (IsStateOn w at by) c.in-Some-2.is c.in_ok-behind.ensures in
    on_ok_weaker c.write_made-written.result
    (λ emits.
    edge_emits w c.requires.can at by c.edge_by.result c.in-Some.edge c.in-Some-2.behind c.args.pool.now c.write_made-written.new.pool c.args.kept.now
    c.write_made-written.new.kept given c.in-Some.is state emits)
    c.write_made-written.ensures.ok

pub returns-clause-full : goal.returns-clause-full
returns-clause-full c = λ reason is.
    let w = c.args.setting.now in
    let at = c.args.at in
    let by = c.args.by in
    let given = planned_by c.plan.result.now w.plan at by c.edge_by.result c.edge_by.ensures c.plan.ensures in
    let state = subst (IsStateOn w at by) c.in-Some-2.is c.in_ok-behind.ensures in
    edge_full w c.requires.can at by c.edge_by.result c.in-Some.edge c.in-Some-2.behind c.args.pool.now reason given c.in-Some.is state
    (c.write_made-written.ensures.full reason is)
