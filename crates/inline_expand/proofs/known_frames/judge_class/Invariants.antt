use Rattle.inline_expand.proofs.known_frames.judge_class.Given as goal
use Rattle.inline_expand.specs.Inner.KnownFrames.{AreKnown}

abbrev pub invariant-loop-method : goal.invariant-loop-method
invariant-loop-method l = AreKnown l.typed l.found
