use Rattle.std.proofs.Common.{◌≡◌, map, take}
use Rattle.row_frames.specs.Inner.Becoming.{becomes}
use Rattle.row_frames.proofs.initialisers.Copies.entries.Given as goal

abbrev pub invariant-loop-entry : goal.invariant-loop-entry
invariant-loop-entry l = l.stack ≡ map (becomes l.self.own.now l.self.class.now l.self.receiver.now) (take l.entry-index l.before)
