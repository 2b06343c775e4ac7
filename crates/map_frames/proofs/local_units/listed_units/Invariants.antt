use Rattle.std.proofs.Common.{◌≡◌, take}
use Rattle.map_frames.proofs.local_units.listed_units.Given as goal

abbrev pub invariant-loop-at : goal.invariant-loop-at
invariant-loop-at l = l.units.items ≡ take l.at l.locals
