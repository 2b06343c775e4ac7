use Rattle.written_frames.proofs.locals.changed_locals.Given as goal
use Rattle.written_frames.specs.Inner.OwnUnits.{AreChanged}

abbrev pub invariant-loop-at : goal.invariant-loop-at
invariant-loop-at l = AreChanged l.flat l.types l.state.slots l.at l.locals
