use Rattle.cases_rewrite.proofs.making.are_low.Given as goal
use Rattle.cases_rewrite.specs.Inner.Making.{AreLow}

abbrev pub invariant-loop-at : goal.invariant-loop-at
invariant-loop-at l = AreLow l.flat l.at
