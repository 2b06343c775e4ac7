use Rattle.std.proofs.Common.{arith}
use Rattle.std.proofs.lemmas.List.{take_more}
use Rattle.inline_expand.proofs.AlonePoints.{next-bound}
use Rattle.inline_expand.proofs.handlers.next_bound.Goals as goal

pub loop-handler-preserved : goal.loop-handler-preserved
loop-handler-preserved c =
    next-bound c.args.at c.loop-handler.next c.bound_behind.result c.min-next.result c.args.handlers.now c.loop-handler.handler-index _
    (take_more c.args.handlers.now c.loop-handler.handler-index _ c.loop-handler-test.true)
    c.loop-handler.invariant c.bound_behind.ensures (omega (arith, c.min-next.ensures)) (omega (arith, c.min-next.ensures))
