use Rattle.std.proofs.Common.{◌≡◌, ◌++◌, drop}
use Rattle.code_drafts.proofs.placing.pairs_to.Given as goal
use Rattle.plan_flow.specs.Written.WrittenCode.{pairs_to}

abbrev pub invariant-loop-at : goal.invariant-loop-at
invariant-loop-at l = l.made.items ++ pairs_to (drop l.at l.pairs) (drop l.at l.numbers) ≡ pairs_to l.pairs l.numbers
