use Rattle.std.proofs.Common.{length}
use Rattle.cases_rewrite.proofs.making.+are_present.Given as goal

abbrev pub decreases-are_present : goal.decreases-are_present
decreases-are_present l = length l.sites.now
