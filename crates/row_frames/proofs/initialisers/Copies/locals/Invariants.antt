use Rattle.std.proofs.Common.{◌≡◌}
use Rattle.row_frames.specs.Inner.Becoming.{becomes}
use Rattle.row_frames.proofs.MappedSoFar.{mapped_to}
use Rattle.row_frames.proofs.initialisers.Copies.locals.Given as goal

abbrev pub invariant-loop-index : goal.invariant-loop-index
invariant-loop-index l = l.after ≡ mapped_to (becomes l.self.own.now l.self.class.now l.self.receiver.now) l.index l.before
