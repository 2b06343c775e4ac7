use Rattle.written_frames.proofs.locals.push_sites.Given as goal
use Rattle.written_frames.specs.Inner.FieldUnits.{HasSites}

abbrev pub invariant-loop-number : goal.invariant-loop-number
invariant-loop-number l = HasSites l.state l.fn.locals l.sites l.locals l.number
