use Rattle.std.proofs.Common.{◌≡◌, ◌+◌, ◌≤◌, drop}
use Rattle.class_model.specs.Frames.{depth}
use Rattle.inline_expand.specs.Inner.WideWords.{counted}
use Rattle.inline_expand.proofs.expanded.wide.depth.Given as goal

abbrev pub invariant-loop-entry : goal.invariant-loop-entry
invariant-loop-entry l = record {
  few : l.units ≤ 18446744073709551615;
  all : counted (l.units + depth (drop l.entry-index l.entries)) ≡ counted (depth l.entries);
}
