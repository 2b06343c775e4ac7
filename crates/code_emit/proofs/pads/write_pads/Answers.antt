use Rattle.code_emit.proofs.PadLaws.{none_padded}
use Rattle.code_emit.proofs.PointLaws.{none_written}
use Rattle.code_emit.proofs.pads.write_pads.Goals as goal
use Rattle.code_emit.specs.Inner.PadBlocks.{pads_at}

pub returns-then-not-may_make-clause-ok : goal.returns-then-not-may_make-clause-ok
returns-then-not-may_make-clause-ok c =
    let w = c.args.setting.now in
    none_written w c.args.at (pads_at c.args.of) c.args.pool.now c.args.drafts.now
    (λ links constructor point route reached.
    none_padded w c.requires.can c.args.of c.args.at c.plan.result.now links constructor point route (c.may_make.ensures c.if-not-may_make.true) c.plan.ensures reached)
