use Rattle.std.proofs.Common.{length, ap, arith}
use Rattle.map_frames.proofs.EntriesOfUnits.{no_entries}
use Rattle.map_frames.proofs.local_units.count_entries.Goals as goal

pub returns : goal.returns
returns c = omega (arith, c.loop-others.invariant.0, ap length (no_entries c.loop-others.rest.now c.in_default.ensures.none))
