use Rattle.std.proofs.Common.{◌≡◌, ◌≤◌, drop, max}
use Rattle.flow_code.specs.WrittenUnits.{greatest_depth}
use Rattle.inline_expand.proofs.expanded.wide.greatest_depth.Given as goal
use Rattle.inline_expand.specs.Inner.WideWords.{counted}

abbrev pub invariant-loop-at : goal.invariant-loop-at
invariant-loop-at l = record {
  few : l.greatest ≤ 18446744073709551615;
  all : counted (max l.greatest (greatest_depth (drop l.at l.flat.points))) ≡ counted (greatest_depth l.flat.points);
}
