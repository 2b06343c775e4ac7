use Rattle.std.proofs.Common.{length}
use Rattle.cases_rewrite.proofs.making.+are_short.Given as goal

abbrev pub decreases-are_short : goal.decreases-are_short
decreases-are_short l = length l.sites.now
