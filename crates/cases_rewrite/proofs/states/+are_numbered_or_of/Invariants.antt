use Rattle.std.proofs.Common.{length}
use Rattle.cases_rewrite.proofs.states.+are_numbered_or_of.Given as goal

abbrev pub decreases-are_numbered_or_of : goal.decreases-are_numbered_or_of
decreases-are_numbered_or_of l = length l.slots.now
