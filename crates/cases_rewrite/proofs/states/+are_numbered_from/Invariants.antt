use Rattle.std.proofs.Common.{length}
use Rattle.cases_rewrite.proofs.states.+are_numbered_from.Given as goal

abbrev pub decreases-are_numbered_from : goal.decreases-are_numbered_from
decreases-are_numbered_from l = length l.objects.now
