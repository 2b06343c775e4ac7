use Rattle.std.proofs.Common.{rules}
use Rattle.std.specs.Result.{IsErrOf}
use Rattle.materialise.specs.Laws.GrownEdits.{continues_both}
use Rattle.code_emit.proofs.PadLaws.{edges_end, edges_full, edges_more}
use Rattle.code_emit.proofs.pads.write_edges.Goals as goal
use Rattle.code_emit.specs.Inner.PadBlocks.{pad_of}
use Rattle.flow_code.specs.declared.reason.KeptFault.TheVariants.{Kept}

pub returns-in_err-write_edge-clause-full : goal.returns-in_err-write_edge-clause-full
returns-in_err-write_edge-clause-full c = λ reason is.
    let fails : IsErrOf c.write_edge.result (Kept reason) = search rules in
    edges_full c.args.setting.now c.args.at (pad_of c.args.of c.args.decided) c.args.edges.now c.requires.led c.loop-number.number c.args.pool.now c.loop-number.pool
    c.args.drafts.now c.loop-number.drafts reason c.loop-number-test.true c.loop-number.invariant.0 (c.write_edge.ensures.full reason fails)

pub loop-number-preserved : goal.loop-number-preserved
loop-number-preserved c = (
  edges_more c.args.setting.now c.args.at (pad_of c.args.of c.args.decided) c.args.edges.now c.requires.led c.loop-number.number c.args.pool.now c.loop-number.pool
      c.write_edge.new.pool c.args.drafts.now c.loop-number.drafts c.write_edge.new.drafts c.loop-number-test.true c.loop-number.invariant.0 c.in_ok-write_edge.ensures.ok,
  continues_both c.args.pool.now c.loop-number.pool c.write_edge.new.pool c.loop-number.invariant.1 c.write_edge.ensures.more,
)

pub returns-clause-ok : goal.returns-clause-ok
returns-clause-ok c =
    edges_end c.args.setting.now c.args.at (pad_of c.args.of c.args.decided) c.args.edges.now c.requires.led c.loop-number.number c.args.pool.now c.loop-number.pool
    c.args.drafts.now c.loop-number.drafts c.loop-number-test.false c.loop-number.invariant.0
