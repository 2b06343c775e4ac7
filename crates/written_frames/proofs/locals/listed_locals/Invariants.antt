use Rattle.written_frames.proofs.locals.listed_locals.Given as goal
use Rattle.written_frames.specs.Inner.OwnUnits.{AreListed}

abbrev pub invariant-loop-at : goal.invariant-loop-at
invariant-loop-at l = AreListed l.flat l.types l.state.slots l.at l.locals
