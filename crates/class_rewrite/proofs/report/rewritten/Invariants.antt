use Rattle.std.proofs.Common.{◌≡◌, take}
use Rattle.class_rewrite.specs.Reports.{rewritten_count}
use Rattle.class_rewrite.proofs.report.rewritten.Given as goal

abbrev pub invariant-loop-line : goal.invariant-loop-line
invariant-loop-line l = l.count ≡ rewritten_count (take l.line-index l.report)
