use Rattle.std.proofs.Common.{sym}
use Rattle.std.proofs.lemmas.Result.{on_ok_weaker}
use Rattle.code_emit.proofs.PadLaws.{edge_can_make, given_edge, no_edge_written, no_pad_written, no_plan_written, pad_full, pad_written}
use Rattle.code_emit.proofs.pads.write_edge.Goals as goal

pub returns-in_default-clause-ok : goal.returns-in_default-clause-ok
returns-in_default-clause-ok c =
    no_edge_written c.args.setting.now c.args.of c.args.decided c.args.at c.args.edges.now c.args.number c.requires.led c.args.pool.now c.args.drafts.now (sym c.in_default.ensures)

pub returns-in_default-pad_kind-clause-ok : goal.returns-in_default-pad_kind-clause-ok
returns-in_default-pad_kind-clause-ok c =
    no_pad_written c.args.setting.now c.args.of c.args.decided c.args.at c.args.edges.now c.args.number c.requires.led c.in-Some.edge.now c.args.pool.now c.args.drafts.now
    (sym c.in-Some.ensures) c.in_default-pad_kind.ensures

pub returns-in_default-edge-clause-ok : goal.returns-in_default-edge-clause-ok
returns-in_default-edge-clause-ok c =
    let w = c.args.setting.now in
    no_plan_written w c.args.of c.args.decided c.args.at c.args.edges.now c.args.number c.requires.led c.edge.result c.args.pool.now c.args.drafts.now
    (given_edge c.plan.result.now w.plan c.args.at c.args.number c.edge.result c.edge.ensures c.plan.ensures) c.in_default-edge.is

pub write_make_block-requires-clause-make : goal.write_make_block-requires-clause-make
write_make_block-requires-clause-make c =
    let w = c.args.setting.now in
    edge_can_make w c.args.at c.args.edges.now c.requires.led c.args.number c.edge.result c.in-Some.edge.now c.in-Some-edge.planned
    (given_edge c.plan.result.now w.plan c.args.at c.args.number c.edge.result c.edge.ensures c.plan.ensures) c.in-Some-edge.is (sym c.in-Some.ensures)

pub returns-clause-ok : goal.returns-clause-ok
returns-clause-ok c =
    let w = c.args.setting.now in
    on_ok_weaker c.write_make_block.result
    (λ writes.
    pad_written w c.args.of c.args.decided c.args.at c.args.edges.now c.args.number c.requires.led c.in-Some.edge.now c.in-Some-pad_kind.kind c.edge.result c.in-Some-edge.planned
    (sym c.in-Some.ensures) c.in-Some-pad_kind.ensures (given_edge c.plan.result.now w.plan c.args.at c.args.number c.edge.result c.edge.ensures c.plan.ensures) c.in-Some-edge.is
    c.args.pool.now c.write_make_block.new.pool c.args.drafts.now c.write_make_block.new.drafts writes)
    c.write_make_block.ensures.ok

pub returns-clause-full : goal.returns-clause-full
returns-clause-full c = λ reason is.
    let w = c.args.setting.now in
    pad_full w c.args.of c.args.decided c.args.at c.args.edges.now c.args.number c.requires.led c.in-Some.edge.now c.in-Some-pad_kind.kind c.edge.result c.in-Some-edge.planned
    (sym c.in-Some.ensures) c.in-Some-pad_kind.ensures (given_edge c.plan.result.now w.plan c.args.at c.args.number c.edge.result c.edge.ensures c.plan.ensures) c.in-Some-edge.is
    c.args.pool.now reason (c.write_make_block.ensures.full reason is)
