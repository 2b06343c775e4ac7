use Rattle.std.proofs.Common.{◌≡◌, drop, max, min}
use Rattle.flow_code.specs.WrittenUnits.{greatest_depth}
use Rattle.class_rewrite.proofs.local_units.greatest_depth.Given as goal

abbrev pub invariant-loop-at : goal.invariant-loop-at
invariant-loop-at l = max l.greatest (min (greatest_depth (drop l.at l.flat.points)) 65535) ≡ min (greatest_depth l.flat.points) 65535
