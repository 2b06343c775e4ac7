use Rattle.std.proofs.Common.{length}
use Rattle.cases_rewrite.proofs.emitting.+pairs_within.Given as goal

abbrev pub decreases-pairs_within : goal.decreases-pairs_within
decreases-pairs_within l = length l.pairs.now
