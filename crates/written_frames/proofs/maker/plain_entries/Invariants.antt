use Rattle.std.proofs.Common.{drop, length}
use Rattle.written_frames.proofs.maker.plain_entries.Given as goal
use Rattle.written_frames.specs.Inner.PlainEntries.{HasEntries}

abbrev pub invariant-loop-place : goal.invariant-loop-place
invariant-loop-place l =
    HasEntries l.flat l.typed.stack (drop (length l.typed.locals) l.state.slots) l.entries l.place
