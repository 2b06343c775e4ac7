use Rattle.std.proofs.Common.{length}
use Rattle.cases_rewrite.proofs.plan_code.+flow_on.Given as goal

abbrev pub decreases-flow_on : goal.decreases-flow_on
decreases-flow_on l = length l.points.now
