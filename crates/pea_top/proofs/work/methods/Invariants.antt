-- The total is that of the class files before the index, each of which has fewer than 2^64 methods.
use Rattle.std.proofs.Common.{◌≡◌, ◌≤◌, ◌*◌, ◌-◌, ◌^◌, take}
use Rattle.pea_top.specs.Effects.{method_count}
use Rattle.pea_top.proofs.work.methods.Given as goal

abbrev pub invariant-loop-class : goal.invariant-loop-class
invariant-loop-class l = record {
  is : l.total ≡ method_count (take l.class-index l.classes);
  bound : l.total ≤ l.class-index * (2 ^ 64 - 1);
}
