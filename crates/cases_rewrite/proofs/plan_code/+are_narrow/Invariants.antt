use Rattle.std.proofs.Common.{length}
use Rattle.cases_rewrite.proofs.plan_code.+are_narrow.Given as goal

abbrev pub decreases-are_narrow : goal.decreases-are_narrow
decreases-are_narrow l = length l.points.now
