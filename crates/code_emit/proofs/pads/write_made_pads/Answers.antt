use Rattle.std.proofs.lemmas.Result.{on_ok_weaker}
use Rattle.code_emit.proofs.PadLaws.{pads_full, pads_written}
use Rattle.code_emit.proofs.pads.write_made_pads.Goals as goal

pub returns-clause-ok : goal.returns-clause-ok
returns-clause-ok c =
    let w = c.args.setting.now in
    on_ok_weaker c.write_edges-written.result
    (λ writes.
    pads_written w c.args.of c.args.at c.args.state.now c.is_decided-decided.result c.flat.result.now c.requires.left c.is_decided-decided.ensures c.flat.ensures
    c.args.pool.now c.write_edges-written.new.pool c.args.drafts.now c.write_edges-written.new.drafts writes)
    c.write_edges-written.ensures.ok

pub returns-clause-full : goal.returns-clause-full
returns-clause-full c = λ reason is.
    let w = c.args.setting.now in
    pads_full w c.args.of c.args.at c.args.state.now c.is_decided-decided.result c.flat.result.now c.requires.left c.is_decided-decided.ensures c.flat.ensures
    c.args.pool.now reason (c.write_edges-written.ensures.full reason is)
