use Rattle.inline_expand.specs.Inner.Chains.{IsNoneOf}
use Rattle.inline_expand.proofs.StandingParts.{IsLeft}
use Rattle.inline_expand.proofs.shallow.none_is_one_of.Given as goal

abbrev pub invariant-loop-at : goal.invariant-loop-at
invariant-loop-at l = IsLeft (IsNoneOf l.others) l.methods l.at-index
