use Rattle.plan_flow.specs.Inner.Blocks.{AreHeadsUpTo}
use Rattle.plan_flow.proofs.heads.heads_of.Given as goal

abbrev pub invariant-loop-at : goal.invariant-loop-at
invariant-loop-at l = AreHeadsUpTo l.flat l.heads.items l.at
