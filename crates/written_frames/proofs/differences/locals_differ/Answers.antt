use Rattle.std.proofs.Common.{sym, arith}
use Rattle.making_code.specs.StateFrames.{differs_in}
use Rattle.written_frames.proofs.Differing.{differs_later, differs_there, no_more_differ}
use Rattle.written_frames.proofs.differences.locals_differ.Goals as goal

pub returns-then-is_lost : goal.returns-then-is_lost
returns-then-is_lost c =
    differs_there c.args.one.now c.args.later.now c.loop-at.at c.in-Some-Some.unit.now c.in-Some-Some.other.now c.is_lost.result
    (differs_in c.args.one.now c.args.later.now) (sym c.in-Some-Some.ensures) (sym c.in-Some-Some.ensures') c.is_lost.ensures c.if-is_lost.true c.loop-at.invariant

pub loop-at-preserved : goal.loop-at-preserved
loop-at-preserved c =
    differs_later c.args.one.now c.args.later.now c.loop-at.at c.in-Some-Some.unit.now c.in-Some-Some.other.now c.is_lost.result
    (differs_in c.args.one.now c.args.later.now) (sym c.in-Some-Some.ensures) (sym c.in-Some-Some.ensures') c.is_lost.ensures c.if-is_lost.false c.loop-at.invariant

pub returns : goal.returns
returns c =
    no_more_differ c.args.one.now c.args.later.now c.loop-at.at c.listed.result (differs_in c.args.one.now c.args.later.now) c.listed.ensures.tops
    (omega (arith, c.loop-at-test.false, c.loop-at.auto.at-end, c.min-at-end.ensures, c.len.ensures)) c.loop-at.invariant
