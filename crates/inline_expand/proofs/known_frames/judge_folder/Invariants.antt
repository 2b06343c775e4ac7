use Rattle.inline_expand.proofs.known_frames.judge_folder.Given as goal
use Rattle.inline_expand.specs.Inner.KnownFrames.{AreKnown}

abbrev pub invariant-loop-class : goal.invariant-loop-class
invariant-loop-class l = AreKnown l.typed l.found
