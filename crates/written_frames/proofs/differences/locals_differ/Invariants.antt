use Rattle.std.proofs.Common.{◌≡◌, drop}
use Rattle.making_code.specs.StateFrames.{differs_in}
use Rattle.written_frames.proofs.differences.locals_differ.Given as goal

abbrev pub invariant-loop-at : goal.invariant-loop-at
invariant-loop-at l = differs_in (drop l.at l.one) (drop l.at l.later) ≡ differs_in l.one l.later
