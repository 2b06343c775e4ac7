use Rattle.plan_flow.proofs.Gathering.{Gathered}
use Rattle.plan_flow.proofs.sources.push_operands.Given as goal

abbrev pub invariant-loop-number : goal.invariant-loop-number
invariant-loop-number l = Gathered l.initial.list.items l.list.items l.state l.types l.form l.number-index
