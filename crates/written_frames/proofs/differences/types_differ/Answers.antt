use Rattle.std.proofs.Common.{arith}
use Rattle.making_code.specs.StateFrames.{differs_in}
use Rattle.written_frames.proofs.Differing.{no_entries_differ}
use Rattle.written_frames.proofs.differences.types_differ.Goals as goal

pub returns : goal.returns
returns c =
    no_entries_differ c.args.one.now c.args.later.now c.loop-at.at (differs_in c.args.one.now c.args.later.now)
    (omega (arith, c.loop-at-test.false, c.loop-at.auto.at-end, c.min-at-end.ensures)) c.loop-at.invariant
