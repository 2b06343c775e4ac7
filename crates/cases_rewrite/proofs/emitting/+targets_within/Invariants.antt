use Rattle.std.proofs.Common.{length}
use Rattle.cases_rewrite.proofs.emitting.+targets_within.Given as goal

abbrev pub decreases-targets_within : goal.decreases-targets_within
decreases-targets_within l = length l.targets.now
