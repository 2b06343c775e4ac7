use Rattle.std.proofs.Common.{◌-◌}
use Rattle.plan_flow.proofs.TopEntries.{Entries}
use Rattle.plan_flow.proofs.beneath.add_entries.Given as goal

abbrev pub decreases-loop-at : goal.decreases-loop-at
decreases-loop-at l = l.end - l.at

abbrev pub invariant-loop-at : goal.invariant-loop-at
invariant-loop-at l = Entries l.initial.sites l.sites l.state l.types l.entries l.at
