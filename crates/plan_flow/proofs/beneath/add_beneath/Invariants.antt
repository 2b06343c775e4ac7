use Rattle.std.proofs.Common.{◌-◌, length}
use Rattle.plan_flow.proofs.TopEntries.{EdgesLeft}
use Rattle.plan_flow.proofs.beneath.add_beneath.Given as goal

abbrev pub decreases-loop-edge : goal.decreases-loop-edge
decreases-loop-edge l = length l.edges - l.at

abbrev pub invariant-loop-edge : goal.invariant-loop-edge
invariant-loop-edge l = EdgesLeft l.initial.sites l.sites l.tree l.flat l.types l.row l.edges l.state l.at
