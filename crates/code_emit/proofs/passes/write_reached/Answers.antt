use Rattle.std.proofs.Common.{OnOk, sym, subst}
use Rattle.code_emit.proofs.passes.write_reached.Goals as goal
use Rattle.code_emit.specs.Inner.PassBlocks.{blocks_at}
use Rattle.code_emit.specs.Inner.ReachedPoints.{AreBlocksFull, WritesAt}
use Rattle.code_emit.specs.declared.passes.Pass.{Pass}

pub returns-in-Points-clause-ok : goal.returns-in-Points-clause-ok
returns-in-Points-clause-ok c =
    subst
    (λ (pass : Pass). OnOk c.write_point.result
    (WritesAt c.args.setting.now c.args.at (blocks_at pass) c.args.pool.now c.write_point.new.pool c.args.drafts.now c.write_point.new.drafts))
    (sym c.in-Points.is) c.write_point.ensures.ok

pub returns-in-Points-clause-full : goal.returns-in-Points-clause-full
returns-in-Points-clause-full c = λ reason is.
    subst (λ (pass : Pass). AreBlocksFull c.args.setting.now c.args.at (blocks_at pass) c.args.pool.now reason) (sym c.in-Points.is) (c.write_point.ensures.full reason is)

pub returns-in-JumpPads-clause-ok : goal.returns-in-JumpPads-clause-ok
returns-in-JumpPads-clause-ok c =
    subst
    (λ (pass : Pass). OnOk c.write_pads.result
    (WritesAt c.args.setting.now c.args.at (blocks_at pass) c.args.pool.now c.write_pads.new.pool c.args.drafts.now c.write_pads.new.drafts))
    (sym c.in-JumpPads.is) c.write_pads.ensures.ok

pub returns-in-JumpPads-clause-full : goal.returns-in-JumpPads-clause-full
returns-in-JumpPads-clause-full c = λ reason is.
    subst (λ (pass : Pass). AreBlocksFull c.args.setting.now c.args.at (blocks_at pass) c.args.pool.now reason) (sym c.in-JumpPads.is) (c.write_pads.ensures.full reason is)

pub returns-in-HandlerPads-clause-ok : goal.returns-in-HandlerPads-clause-ok
returns-in-HandlerPads-clause-ok c =
    subst
    (λ (pass : Pass). OnOk c.write_pads-in-HandlerPads.result
    (WritesAt c.args.setting.now c.args.at (blocks_at pass) c.args.pool.now c.write_pads-in-HandlerPads.new.pool c.args.drafts.now c.write_pads-in-HandlerPads.new.drafts))
    (sym c.in-HandlerPads.is) c.write_pads-in-HandlerPads.ensures.ok

pub returns-in-HandlerPads-clause-full : goal.returns-in-HandlerPads-clause-full
returns-in-HandlerPads-clause-full c = λ reason is.
    subst (λ (pass : Pass). AreBlocksFull c.args.setting.now c.args.at (blocks_at pass) c.args.pool.now reason) (sym c.in-HandlerPads.is) (c.write_pads-in-HandlerPads.ensures.full reason is)
