use Rattle.std.proofs.Common.{arith}
use Rattle.written_frames.proofs.OwnUnits.{listed_all}
use Rattle.written_frames.proofs.locals.listed_locals.Goals as goal

pub returns : goal.returns
returns c =
    listed_all c.args.flat.now c.args.types.now c.args.state.now.slots c.loop-at.at c.listed.result c.min-len.result c.loop-at.locals c.fill.new.self
    c.listed.ensures.tops
    (omega (arith, c.min-len.ensures, c.len.ensures, c.len-2.ensures))
    (omega (arith, c.loop-at-test.false, c.loop-at.auto.at-end, c.min-at-end.ensures))
    c.loop-at.invariant c.fill.ensures
