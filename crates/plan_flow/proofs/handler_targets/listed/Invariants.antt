use Rattle.std.proofs.Common.{◌≡◌, ◌++◌}
use Rattle.plan_flow.proofs.handler_targets.listed.Given as goal

abbrev pub invariant-loop-to : goal.invariant-loop-to
invariant-loop-to l = l.targets.items ++ l.to-iterator ≡ l.seen.keys
